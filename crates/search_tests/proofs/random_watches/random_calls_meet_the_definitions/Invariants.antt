use Rattle.search_tests.specs.WatchStates.{IsIdle}
use Rattle.search_tests.proofs.random_watches.random_calls_meet_the_definitions.Given as goal

-- nothing is queued or pending
abbrev pub invariant-loop-2 : goal.invariant-loop-2
invariant-loop-2 g l = IsIdle 40 l.watches

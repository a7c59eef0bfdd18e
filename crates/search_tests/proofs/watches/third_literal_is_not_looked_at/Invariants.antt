use Rattle.search_tests.specs.WatchStates.{IsAtStart}
use Rattle.search_tests.proofs.watches.third_literal_is_not_looked_at.Given as goal

-- nothing is true yet
abbrev pub invariant-loop-i : goal.invariant-loop-i
invariant-loop-i g l = IsAtStart 201 l.watches

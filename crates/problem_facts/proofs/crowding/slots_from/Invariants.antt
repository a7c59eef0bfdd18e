-- these slots, and all slots so far
use Rattle.std.proofs.Common.{◌≡◌, ◌++◌}
use Rattle.route_encode.specs.Encoding.{below}
use Rattle.problem_facts.proofs.crowding.slots_from.Given as goal

abbrev pub invariant-loop-s : goal.invariant-loop-s
invariant-loop-s l = l.rest.items ≡ l.front ++ below l.s

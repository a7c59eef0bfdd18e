-- the slots so far
use Rattle.std.proofs.Common.{◌≡◌, take}
use Rattle.route_count.proofs.crowded.first_of.Given as goal

abbrev pub invariant-loop-at : goal.invariant-loop-at
invariant-loop-at l = l.row.items ≡ take l.at l.trees

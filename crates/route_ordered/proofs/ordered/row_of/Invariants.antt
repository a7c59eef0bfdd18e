-- the slots so far
use Rattle.std.proofs.Common.{◌≡◌, take}
use Rattle.route_ordered.proofs.ordered.row_of.Given as goal

abbrev pub invariant-loop-s : goal.invariant-loop-s
invariant-loop-s l = l.row.items ≡ take l.s-index l.slots

use Rattle.std.proofs.Common.{All, length}
use Rattle.route_negotiate.specs.Reached.{IsReachedWithin}
use Rattle.route_negotiate.proofs.within.add_tree.Given as goal

abbrev pub invariant-loop-grown : goal.invariant-loop-grown
invariant-loop-grown l = All (IsReachedWithin (length l.slots) l.width l.reach) l.wires.items

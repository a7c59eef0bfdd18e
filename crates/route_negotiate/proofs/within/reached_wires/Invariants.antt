use Rattle.std.proofs.Common.{All, length}
use Rattle.route_negotiate.specs.Reached.{IsReachedWithin}
use Rattle.route_negotiate.proofs.within.reached_wires.Given as goal

abbrev pub invariant-loop-net : goal.invariant-loop-net
invariant-loop-net l = All (IsReachedWithin (length l.slots) l.width l.reach) l.wires.items

use Rattle.std.proofs.Common.{◌≡◌, length}
use Rattle.route_negotiate.proofs.routing.tree_places.Given as goal

abbrev pub invariant-loop-net : goal.invariant-loop-net
invariant-loop-net l = length l.places.items ≡ length l.board.netlist.now.nets

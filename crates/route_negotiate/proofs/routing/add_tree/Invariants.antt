use Rattle.std.specs.Prelude.{All}
use Rattle.fpga_types.specs.Placed.{IsWire}
use Rattle.route_negotiate.proofs.routing.add_tree.Given as goal

abbrev pub invariant-loop-number : goal.invariant-loop-number
invariant-loop-number l = All (IsWire l.board.placement.now.grid l.width) l.net.wires.items

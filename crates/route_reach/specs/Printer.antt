-- What a net is printed by.
use Rattle.std.specs.Prelude.{◌≡◌}
use Rattle.fpga_graph.specs.GraphOf.{GraphOf}
use Rattle.fpga_types.specs.Slots.{slots}
use Rattle.route_reach.specs.Printing.{IsFrame, NetFrame, frame, graph_in}
use Rattle.route_reach.specs.declared.printer.NetPrinter.{NetPrinter}

-- the net of the global route, with its tree
abbrev pub frame_of : NetPrinter → NetFrame
frame_of of = let g : GraphOf = of.graph.now in
    frame of.problem.now g.width of.reach of.number of.net.now of.tree.now

-- the tree serves the sinks of the net; the graph is that of the problem, and the slots its slots
pub record IsPrinter (of : NetPrinter) : Type 0 where
  pub frame : IsFrame (frame_of of)
  pub graph : of.graph.now ≡ graph_in (frame_of of)
  pub numbers : of.numbers.now ≡ slots of.problem.now.route

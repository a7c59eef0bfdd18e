-- exactly the parts of the wires that the pins so far open are marked
use Rattle.std.proofs.Common.{◌≡◌, length, take}
use Rattle.std.specs.Prelude.{flat_map}
use Rattle.fpga_graph.specs.Wires.{opened_wires}
use Rattle.route_parts.specs.Marks.{graph_in, AreMarked}
use Rattle.route_parts.proofs.unreached.PartedNets.mark_terminal.Given as goal

abbrev pub invariant-loop-pin : goal.invariant-loop-pin
invariant-loop-pin l = record {
  each : length l.marks.items ≡ length l.fn.marks.items;
  marked : AreMarked (graph_in l.self) l.self.parts.table.items
      (flat_map (opened_wires (graph_in l.self)) (take l.pin-index l.pin-items)) l.marks.items;
}

-- the parts of the wires so far are marked too
use Rattle.std.proofs.Common.{◌≡◌, ◌++◌, List, length, take}
use Rattle.fpga_types.specs.declared.grid.Wire.{Wire}
use Rattle.route_parts.specs.Marks.{graph_in, AreMarked}
use Rattle.route_parts.proofs.unreached.PartedNets.mark_wires.Given as goal

abbrev pub invariant-loop-wire : goal.invariant-loop-wire
invariant-loop-wire l = record {
  each : length l.marks.items ≡ length l.fn.marks.items;
  marked : (others : List Wire)
      → AreMarked (graph_in l.self) l.self.parts.table.items others l.fn.marks.items
      → AreMarked (graph_in l.self) l.self.parts.table.items
      (others ++ take l.wire-index l.wires) l.marks.items;
}

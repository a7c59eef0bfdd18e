-- the wires so far that the wire is joined to have its part
use Rattle.std.proofs.Common.{◌≡◌, ℕ, ◌+◌, ◌<◌, ◌∷◌, length, get_or}
use Rattle.fpga_types.specs.declared.grid.Wire.{Wire}
use Rattle.route_parts.specs.Flooding.{IsFlooding, Keeps, open_count}
use Rattle.route_parts.specs.Links.{graph_of, part_in}
use Rattle.route_parts.proofs.flood.Flood.spread.Given as goal

abbrev pub invariant-loop-joint : goal.invariant-loop-joint
invariant-loop-joint l = record {
  flooding : IsFlooding (graph_of l.wires) l.part l.self.table.items
      (l.fn.wire ∷ l.self.ahead.items);
  joined : (k : ℕ) (d : Wire) → k < l.joint-index
      → part_in (graph_of l.wires) l.self.table.items (get_or l.joint-items k d) ≡ l.part;
  keeps : Keeps l.fn.self.table.items l.self.table.items;
  left : open_count l.self.table.items + length l.self.ahead.items
      ≡ open_count l.fn.self.table.items + length l.fn.self.ahead.items;
}

-- the wires of the lines so far were added
use Rattle.std.proofs.Common.{◌≡◌, take}
use Rattle.std.specs.Prelude.{false, string_bytes}
use Rattle.route_draw.specs.Parts.{Adds, AreParts}
use Rattle.route_draw.specs.Wires.{AreLanes, IsWire, Layout, wires_of}
use Rattle.route_draw.proofs.WireLemmas.{is_behind_sink}
use Rattle.route_draw.proofs.wires.append_wires.Given as goal

abbrev pub invariant-loop-elem : goal.invariant-loop-elem
invariant-loop-elem l = record {
  behind : l.behind_sink ≡ is_behind_sink false (take l.elem-index l.elems);
  added : (layout : Layout) → AreLanes layout l.lanes
      → Adds (AreParts (IsWire layout) (wires_of (take l.elem-index l.elems)))
      (string_bytes l.initial.out) (string_bytes l.out);
}

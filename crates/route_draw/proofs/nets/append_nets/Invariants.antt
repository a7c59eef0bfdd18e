-- the nets so far were added
use Rattle.std.proofs.Common.{◌≡◌}
use Rattle.std.specs.Prelude.{string_bytes, take}
use Rattle.route_draw.specs.Blamed.{blame_of}
use Rattle.route_draw.specs.Parts.{Adds, AreParts}
use Rattle.route_draw.specs.Picture.{IsRouted}
use Rattle.route_draw.specs.Wires.{AreLanes, Layout}
use Rattle.route_draw.proofs.nets.append_nets.Given as goal

abbrev pub invariant-loop-net : goal.invariant-loop-net
invariant-loop-net l = record {
  same : l.lanes ≡ l.initial.lanes;
  added : (layout : Layout) → AreLanes layout l.initial.lanes
      → Adds (AreParts (IsRouted layout (blame_of l.emphasis)) (take l.net-index l.nets))
      (string_bytes l.initial.out) (string_bytes l.out);
}

-- the nets so far that are held
use Rattle.std.specs.Prelude.{◌≡◌, filter_map}
use Rattle.std.specs.List.{range_with_len}
use Rattle.route_bound.specs.Corners.{has_corner_in}
use Rattle.route_bound.specs.Ranges.{corners_of}
use Rattle.cell_clauses.specs.Frames.{held_net}
use Rattle.cell_clauses.specs.Held.{placed_of}
use Rattle.cell_clauses.proofs.placed.Placed.nets_held.Given as goal

abbrev pub invariant-loop-number : goal.invariant-loop-number
invariant-loop-number l = l.nets.items
    ≡ filter_map (held_net (placed_of l.self) (has_corner_in (corners_of l.range)))
    (range_with_len 0 l.number)

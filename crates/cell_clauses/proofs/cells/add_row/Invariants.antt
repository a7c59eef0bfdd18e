-- the cells of the columns so far
use Rattle.std.specs.Prelude.{◌≡◌, ◌++◌, filter, map}
use Rattle.std.specs.List.{range_with_len}
use Rattle.route_bound.specs.Corners.{has_corner_in}
use Rattle.route_bound.specs.Ranges.{corners_of}
use Rattle.cell_clauses.proofs.cells.add_row.Given as goal

abbrev pub invariant-loop-column : goal.invariant-loop-column
invariant-loop-column l = l.cells.items ≡ l.initial.cells.items
    ++ filter (has_corner_in (corners_of l.range))
    (map (λ x. record { axis = l.axis; x = x; y = l.y }) (range_with_len l.columns.first l.column))

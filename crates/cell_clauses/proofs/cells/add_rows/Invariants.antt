-- the cells of the rows so far
use Rattle.std.specs.Prelude.{◌≡◌, ◌++◌, filter, flat_map}
use Rattle.std.specs.List.{range_with_len}
use Rattle.route_bound.specs.Corners.{has_corner_in}
use Rattle.route_bound.specs.Ranges.{corners_of}
use Rattle.cell_clauses.specs.Sides.{cells_of_row}
use Rattle.cell_clauses.proofs.cells.add_rows.Given as goal

abbrev pub invariant-loop-row : goal.invariant-loop-row
invariant-loop-row l = l.cells.items ≡ l.initial.cells.items
    ++ filter (has_corner_in (corners_of l.range))
    (flat_map (cells_of_row l.axis l.columns) (range_with_len l.rows.first l.row))

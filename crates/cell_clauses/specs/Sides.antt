-- Rows of cells, side by side.
use Rattle.std.specs.Prelude.{ℕ, List, flat_map, map}
use Rattle.std.specs.List.{range_with_len}
use Rattle.fpga_types.specs.declared.grid.Axis.{Axis}
use Rattle.fpga_types.specs.declared.grid.Cell.{Cell}
use Rattle.cell_clauses.specs.declared.span.Span.{Span}

-- the numbers of a span
abbrev pub numbers_of : Span → List ℕ
numbers_of span = range_with_len span.first span.count

-- the cells of one direction in one row, by their columns
abbrev pub cells_of_row : Axis → (columns : Span) → (y : ℕ) → List Cell
cells_of_row axis columns y =
    map (λ x. record { axis = axis; x = x; y = y }) (numbers_of columns)

-- those in some rows
abbrev pub cells_of_rows : Axis → (columns rows : Span) → List Cell
cells_of_rows axis columns rows = flat_map (cells_of_row axis columns) (numbers_of rows)

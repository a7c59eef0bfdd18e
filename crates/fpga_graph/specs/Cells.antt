-- Cells by their axis and place.
use Rattle.std.specs.Prelude.{ℕ}
use Rattle.fpga_types.specs.declared.grid.Axis.TheVariants.{X, Y}
use Rattle.fpga_types.specs.declared.grid.Cell.{Cell}

-- the cell at (x,y) along a row
abbrev pub row_cell : (x y : ℕ) → Cell
row_cell x y = record { axis = X; x = x; y = y }

-- the cell at (x,y) along a column
abbrev pub column_cell : (x y : ℕ) → Cell
column_cell x y = record { axis = Y; x = x; y = y }

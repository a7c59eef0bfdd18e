-- The wires that a pin opens in the cells along the sides of its place.
use Rattle.std.specs.Prelude.{ℕ, ◌-◌, ◌==◌, List, [], map, Option, Some, None, if◌then◌else◌}
use Rattle.std.specs.Option.{option_map_or}
use Rattle.fpga_types.specs.Touching.{touches}
use Rattle.fpga_types.specs.declared.grid.Cell.{Cell}
use Rattle.fpga_types.specs.declared.grid.PinAt.{PinAt}
use Rattle.fpga_types.specs.declared.grid.PinAt.TheVariants.{Pad as PadAt, Pin as PinOf}
use Rattle.fpga_types.specs.declared.grid.Side.{Side}
use Rattle.fpga_types.specs.declared.grid.Side.TheVariants.{Left, Right, Bottom, Top}
use Rattle.fpga_types.specs.declared.grid.Wire.{Wire}
use Rattle.fpga_graph.specs.Cells.{column_cell, row_cell}
use Rattle.fpga_graph.specs.GraphOf.{GraphOf}
use Rattle.fpga_graph.specs.Wires.{opened_tracks, wire_in}

-- the cell along this side of the place (x,y); none lies on the left of column 0 or below row 0
abbrev pub cell_along : (x y : ℕ) → Side → Option Cell
cell_along x y Left = if x == 0 then None else Some (column_cell (x - 1) y)
cell_along x y Right = Some (column_cell x y)
cell_along x y Bottom = if y == 0 then None else Some (row_cell x (y - 1))
cell_along x y Top = Some (row_cell x y)

-- the cell along this side of the pin's place
abbrev pub cell_beside : PinAt → Side → Option Cell
cell_beside (PadAt x y sub) side = cell_along x y side
cell_beside (PinOf x y pin) side = cell_along x y side

-- the wires of the cell that the pin opens, if it touches the cell
abbrev pub opened_in : GraphOf → PinAt → Cell → List Wire
opened_in g pin cell =
    if touches g.arch g.grid pin cell then map (wire_in cell) (opened_tracks g pin) else []

-- the wires that the pin opens along this side of its place
abbrev pub opened_along : GraphOf → PinAt → Side → List Wire
opened_along g pin side = option_map_or (opened_in g pin) (cell_beside pin side) []

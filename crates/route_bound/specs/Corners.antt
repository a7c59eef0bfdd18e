-- Sets of corners of the array, and the cells between a corner of the set and one out of it.
use Rattle.std.specs.Prelude.{ℕ, ◌-◌, Bool, ◌&&◌, ◌||◌, not}
use Rattle.fpga_types.specs.declared.grid.Axis.{Axis}
use Rattle.fpga_types.specs.declared.grid.Axis.TheVariants.{X, Y}
use Rattle.fpga_types.specs.declared.grid.Cell.{Cell}
use Rattle.fpga_types.specs.declared.grid.SwitchAt.{SwitchAt}

-- a set of corners; the corners of the array are its switch blocks
abbrev pub Corners : Type 0
Corners = SwitchAt → Bool

-- the other corners
abbrev pub other_side : Corners → Corners
other_side corners at = not (corners at)

-- the corner at the left or lower end of a cell of the array
abbrev pub near_corner : Axis → (x y : ℕ) → SwitchAt
near_corner X x y = record { i = x - 1; j = y }
near_corner Y x y = record { i = x; j = y - 1 }

-- the corner at its right or upper end
abbrev pub far_corner : (x y : ℕ) → SwitchAt
far_corner x y = record { i = x; j = y }

-- a corner of the cell is in the set
abbrev pub has_corner_in : Corners → Cell → Bool
has_corner_in corners cell =
    corners (near_corner cell.axis cell.x cell.y) || corners (far_corner cell.x cell.y)

-- a corner of the cell is not in it
abbrev pub has_corner_out : Corners → Cell → Bool
has_corner_out corners cell =
    not (corners (near_corner cell.axis cell.x cell.y)) || not (corners (far_corner cell.x cell.y))

-- one of the two is, and the other is not: the cell is one of the cut round the set
abbrev pub is_cut_cell : Corners → Cell → Bool
is_cut_cell corners cell = has_corner_in corners cell && has_corner_out corners cell

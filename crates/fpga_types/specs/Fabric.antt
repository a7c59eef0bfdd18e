-- The cells of the array and where they meet; cells and places as VPR 4.30 numbers them.
use Rattle.std.specs.Prelude.{◌≡◌, ◌≢◌, ℕ, ◌+◌, ◌≤◌, ◌==◌, nat_le, Bool, true, false, ◌&&◌, IsTrue, List, [], ◌∷◌, map, flat_map, find, Option, None, if◌then◌else◌}
use Rattle.std.specs.List.{range_with_len}
use Rattle.fpga_types.specs.Size.{Size}
use Rattle.fpga_types.specs.declared.grid.Side.{Side}
use Rattle.fpga_types.specs.declared.grid.Side.TheVariants.{Left, Right, Bottom, Top}
use Rattle.fpga_types.specs.declared.grid.Axis.{Axis}
use Rattle.fpga_types.specs.declared.grid.Axis.TheVariants.{X, Y}
use Rattle.fpga_types.specs.declared.grid.Cell.{Cell}
use Rattle.fpga_types.specs.declared.grid.SwitchAt.{SwitchAt}

-- the place (x,y) is one of a channel cell: along a row above row y, or along a column to the right
-- of column x
abbrev pub is_channel_place : Size → Axis → ℕ → ℕ → Bool
is_channel_place grid X x y = nat_le 1 x && nat_le x grid.nx && nat_le y grid.ny
is_channel_place grid Y x y = nat_le x grid.nx && nat_le 1 y && nat_le y grid.ny

-- the cell is one of the array
abbrev pub is_cell : Size → Cell → Bool
is_cell grid cell = is_channel_place grid cell.axis cell.x cell.y

-- they run in one direction
abbrev pub same_axis : Axis → Axis → Bool
same_axis X X = true
same_axis Y Y = true
same_axis _ _ = false

-- they are one cell
abbrev pub same_cell : Cell → Cell → Bool
same_cell a b = same_axis a.axis b.axis && a.x == b.x && a.y == b.y

-- the cell that a switch block has on a side, where the array has it
abbrev pub cell_on : Side → SwitchAt → Cell
cell_on Left at = record { axis = X; x = at.i; y = at.j }
cell_on Right at = record { axis = X; x = at.i + 1; y = at.j }
cell_on Bottom at = record { axis = Y; x = at.i; y = at.j }
cell_on Top at = record { axis = Y; x = at.i; y = at.j + 1 }

-- a switch block, a side of one cell and a side of another
pub record Meeting : Type 0 where
  pub at : SwitchAt
  pub from : Side
  pub to : Side

-- the switch block is one of the array, and has cell a on one side and cell b on another
pub record MeetsAt (grid : Size) (a b : Cell) (m : Meeting) : Type 0 where
  pub column : m.at.i ≤ grid.nx
  pub row : m.at.j ≤ grid.ny
  pub sides : m.from ≢ m.to
  pub first : IsTrue (is_cell grid a) × (a ≡ cell_on m.from m.at)
  pub second : IsTrue (is_cell grid b) × (b ≡ cell_on m.to m.at)

-- some switch block has both cells, on two sides
abbrev pub Meets : Size → Cell → Cell → Type 0
Meets grid a b = (m : Meeting) × MeetsAt grid a b m

-- the sides that are not this one, in the order Left, Right, Bottom, Top
abbrev pub other_sides : Side → List Side
other_sides Left = Right ∷ Bottom ∷ Top ∷ []
other_sides Right = Left ∷ Bottom ∷ Top ∷ []
other_sides Bottom = Left ∷ Right ∷ Top ∷ []
other_sides Top = Left ∷ Right ∷ Bottom ∷ []

-- the switch blocks of the array
abbrev pub switch_blocks : Size → List SwitchAt
switch_blocks grid =
    flat_map (λ i. map (λ j. record { i = i; j = j }) (range_with_len 0 (grid.ny + 1)))
    (range_with_len 0 (grid.nx + 1))

-- each switch block with each two different sides
abbrev pub all_meetings : Size → List Meeting
all_meetings grid =
    flat_map (λ at. flat_map (λ from. map (λ to. record { at = at; from = from; to = to })
    (other_sides from)) (Left ∷ Right ∷ Bottom ∷ Top ∷ [])) (switch_blocks grid)

-- the cells are those on the two sides
abbrev pub is_meeting_of : Cell → Cell → Meeting → Bool
is_meeting_of a b m = same_cell a (cell_on m.from m.at) && same_cell b (cell_on m.to m.at)

-- where two cells of the array meet, by a search over all switch blocks
abbrev pub meeting : Size → Cell → Cell → Option Meeting
meeting grid a b =
    if is_cell grid a && is_cell grid b then find (is_meeting_of a b) (all_meetings grid) else None

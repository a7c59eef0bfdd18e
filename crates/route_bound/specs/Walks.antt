-- Sets of channel cells that part terminals: no walk from cell to cell leads from the one terminal
-- to the other without a cell of the set.
use Rattle.std.specs.Prelude.{◌≡◌, ◌≢◌, ℕ, ◌*◌, ◌≤◌, false, IsTrue, List, [], ◌∷◌, All, AllPairs, Contains, length, slice_get, Some, ⊤}
use Rattle.fpga_types.specs.Fabric.{Meets}
use Rattle.fpga_types.specs.Placed.{IsPlacedRouting, NetWires, is_terminal_pin}
use Rattle.fpga_types.specs.Problem.{PlacedNetlist}
use Rattle.fpga_types.specs.Size.{Size}
use Rattle.fpga_types.specs.Terminals.{driver_in, sinks_in}
use Rattle.fpga_types.specs.Touching.{Touches}
use Rattle.fpga_types.specs.declared.arch.Arch.{Arch}
use Rattle.fpga_types.specs.declared.grid.Cell.{Cell}
use Rattle.fpga_types.specs.declared.grid.PinAt.{PinAt}
use Rattle.fpga_types.specs.declared.netlist.Net.{Net}
use Rattle.fpga_types.specs.declared.problem.Terminal.{Terminal}
use Rattle.route_bound.specs.Lying.{Cells, LiesIn, cells_in}

-- each cell of the walk meets the next
abbrev pub IsWalk : Size → Cell → List Cell → Type 0
IsWalk grid a [] = ⊤
IsWalk grid a (b ∷ more) = Meets grid a b × IsWalk grid b more

-- the last of some cells, the first of which is this
abbrev pub last_cell : Cell → List Cell → Cell
last_cell a [] = a
last_cell a (b ∷ more) = last_cell b more

-- a pin of the terminal touches the cell
pub record IsTouched (arch : Arch) (grid : Size) (at : Terminal) (cell : Cell) : Type 0 where
  pub pin : PinAt
  pub of : IsTrue (is_terminal_pin arch at pin)
  pub touches : Touches arch grid pin cell

-- each walk from a cell of the one terminal to a cell of the other has a cell of the set
abbrev pub AreParted : Arch → Size → Cells → (a b : Terminal) → Type 0
AreParted arch grid cells a b = (first : Cell) (rest : List Cell)
    → IsTouched arch grid a first → IsWalk grid first rest
    → IsTouched arch grid b (last_cell first rest)
    → (cell : Cell) × Contains (first ∷ rest) cell × IsTrue (cells cell)

-- the net with this number is an ordinary one, and the cells part its driver from one of its sinks
pub record IsParted (placed : PlacedNetlist) (cells : Cells) (number : ℕ) : Type 0 where
  pub net : Net
  pub is_net : slice_get placed.netlist.nets number ≡ Some net
  pub ordinary : net.global ≡ false
  pub driver : Terminal
  pub is_driver : driver_in placed net ≡ Some driver
  pub sink : Terminal
  pub is_sink : Contains (sinks_in placed net) sink
  pub parted : AreParted placed.arch placed.placement.grid cells driver sink

-- in every placed routing with so many tracks, nets that the cells part, each once, are at most as
-- many as the cells have wires
abbrev pub FewNetsParted : PlacedNetlist → Cells → (width : ℕ) → Type 0
FewNetsParted placed cells width = (has : ℕ → NetWires) → IsPlacedRouting placed width has
    → (numbers : List ℕ) → AllPairs (λ a b. a ≢ b) numbers → All (IsParted placed cells) numbers
    → length numbers ≤ width * length (cells_in placed.placement.grid cells)

-- a terminal all of whose cells are in the set is parted by it from every other
abbrev pub PartsWithin : Arch → Size → Cells → Type 0
PartsWithin arch grid cells = (a b : Terminal)
    → (LiesIn arch grid cells a → AreParted arch grid cells a b)
    × (LiesIn arch grid cells b → AreParted arch grid cells a b)

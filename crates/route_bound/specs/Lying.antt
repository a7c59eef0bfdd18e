-- Where a terminal lies: what each cell passes that one of its pins touches.
use Rattle.std.specs.Prelude.{Bool, IsTrue, List, ◌∷◌, filter, length, map}
use Rattle.std.specs.List.{list_all, range_with_len}
use Rattle.fpga_types.specs.CellNumbers.{all_cells}
use Rattle.fpga_types.specs.Placed.{is_terminal_pin}
use Rattle.fpga_types.specs.Size.{Size}
use Rattle.fpga_types.specs.Touching.{Touches, touches}
use Rattle.fpga_types.specs.declared.arch.Arch.{Arch}
use Rattle.fpga_types.specs.declared.grid.Cell.{Cell}
use Rattle.fpga_types.specs.declared.grid.PinAt.{PinAt}
use Rattle.fpga_types.specs.declared.grid.PinAt.TheVariants.{Pad as PadAt, Pin as PinOf}
use Rattle.fpga_types.specs.declared.problem.Terminal.{Terminal}

-- a set of channel cells
abbrev pub Cells : Type 0
Cells = Cell → Bool

-- the cells of the array that are in the set
abbrev pub cells_in : Size → Cells → List Cell
cells_in grid cells = filter cells (all_cells grid)

-- each cell that a pin of the terminal touches is in the set
abbrev pub LiesIn : Arch → Size → Cells → Terminal → Type 0
LiesIn arch grid cells at = (pin : PinAt) (cell : Cell) → IsTrue (is_terminal_pin arch at pin)
    → Touches arch grid pin cell → IsTrue (cells cell)

-- the pins of a terminal: its pad, or those of its class at its place
abbrev pub pins_at : Arch → Terminal → List PinAt
pins_at arch at = filter (is_terminal_pin arch at) (PadAt at.x at.y at.number
    ∷ map (λ pin. PinOf at.x at.y pin) (range_with_len 0 (length arch.pins)))

-- the cells that a pin touches
abbrev pub touched : Arch → Size → PinAt → List Cell
touched arch grid pin = filter (touches arch grid pin) (all_cells grid)

-- whether each cell that a pin of the terminal touches is in the set, by a search over both
abbrev pub lies_in : Arch → Size → Cells → Terminal → Bool
lies_in arch grid cells at =
    list_all (λ pin. list_all cells (touched arch grid pin)) (pins_at arch at)

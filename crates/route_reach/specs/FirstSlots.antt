-- The first slot in each cell of an array.
use Rattle.std.specs.Prelude.{◌≡◌, ℕ, ◌<◌, ◌≤◌, IsTrue, List, find, length, Option, None, slice_index_or}
use Rattle.fpga_bounds.specs.Pairs.{AreDistinct}
use Rattle.fpga_types.specs.CellNumbers.{cell_count, number_of_cell}
use Rattle.fpga_types.specs.Fabric.{is_cell, same_cell}
use Rattle.fpga_types.specs.Size.{Size}
use Rattle.fpga_types.specs.Slots.{slot_at}
use Rattle.fpga_types.specs.declared.grid.Cell.{Cell}
use Rattle.fpga_types.specs.declared.limits.TheConstants.{SLOT_LIMIT}
use Rattle.fpga_types.specs.declared.problem.Slot.{Slot}
use Rattle.route_encode.specs.Rivals.{slots_from}

-- the cell of each slot is one of the array
abbrev pub AreOnGrid : Size → List Slot → Type 0
AreOnGrid grid all = (s : ℕ) → s < length all → IsTrue (is_cell grid (slot_at all s).cell)

-- the first of the slots from k on that takes the cell
abbrev pub first_from : List Slot → ℕ → Cell → Option ℕ
first_from all k cell = find (λ b. same_cell (slot_at all b).cell cell) (slots_from all k)

-- at the number of each cell the row has the first of the slots from k on that takes it
pub record AreFirst (grid : Size) (all : List Slot) (k : ℕ) (row : List (Option ℕ)) : Type 0 where
  pub each : length row ≡ cell_count grid
  pub first : (cell : Cell) → IsTrue (is_cell grid cell)
      → slice_index_or row (number_of_cell grid cell) None ≡ first_from all k cell

-- the slots stand once each, in cells of the array; the chains are theirs, and the row has the
-- first slot in each cell
pub record AreFindable (grid : Size) (all chained : List Slot) (row : List (Option ℕ))
    : Type 0 where
  pub few : length all ≤ SLOT_LIMIT
  pub distinct : AreDistinct all
  pub on_grid : AreOnGrid grid all
  pub chains : chained ≡ all
  pub found : AreFirst grid all 0 row

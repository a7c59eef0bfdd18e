-- The slots of a cell, and the cell that has the most.
use Rattle.std.specs.Prelude.{ℕ, ◌==◌, nat_le, Bool, List, length, filter}
use Rattle.std.specs.List.{list_all}
use Rattle.fpga_types.specs.CellNumbers.{cell_count, number_of_cell}
use Rattle.fpga_types.specs.Size.{Size}
use Rattle.fpga_types.specs.Slots.{slot_at}
use Rattle.fpga_types.specs.declared.problem.Slot.{Slot}
use Rattle.route_encode.specs.Encoding.{below}

-- the slots that take the cell with this number, rising
abbrev pub slots_in : Size → List Slot → ℕ → List ℕ
slots_in grid all number =
    filter (λ s. number_of_cell grid (slot_at all s).cell == number) (below (length all))

-- no cell has more slots than the one with this number
abbrev pub has_most : Size → List Slot → ℕ → Bool
has_most grid all number =
    list_all
    (λ other. nat_le (length (slots_in grid all other)) (length (slots_in grid all number)))
    (below (cell_count grid))

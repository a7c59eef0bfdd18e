-- The slots of a net whose cells meet a cell, and those whose cells a pin touches, rising.
use Rattle.arrayvec.specs.ArrayVec.{ArrayVec}
use Rattle.std.specs.Prelude.{ℕ, nat_lt, ◌==◌, List, [], ◌∷◌, filter, map, Option, Some, None, is_some, option_and_then, if◌then◌else◌}
use Rattle.std.specs.List.{position_from}
use Rattle.fpga_graph.specs.Beside.{cell_beside}
use Rattle.fpga_graph.specs.GraphOf.{GraphOf}
use Rattle.fpga_types.specs.Fabric.{meeting}
use Rattle.fpga_types.specs.Size.{Size}
use Rattle.fpga_types.specs.Slots.{same_slot, slot_at, slots}
use Rattle.fpga_types.specs.Touching.{touches}
use Rattle.fpga_types.specs.declared.grid.PinAt.{PinAt}
use Rattle.fpga_types.specs.declared.grid.Side.{Side}
use Rattle.fpga_types.specs.declared.problem.Slot.{Slot}
use Rattle.fpga_types.specs.declared.route.RouteText.{RouteText}
use Rattle.route_reach.specs.Encoding.{Frame, slots_in}

-- the slots of a net whose cells meet the cell of one, rising
abbrev pub meeting_slots : Size → List Slot → Slot → List ℕ
meeting_slots grid all slot =
    filter (λ r. is_some (meeting grid slot.cell (slot_at all r).cell)) (slots_in all slot.net)

-- the slots of the net at a position whose cells the pin touches, rising
abbrev pub touched_slots : GraphOf → List Slot → (n : ℕ) → PinAt → List ℕ
touched_slots g all n pin =
    filter (λ s. touches g.arch g.grid pin (slot_at all s).cell) (slots_in all n)

-- the slots of the net of slot s whose cells meet its own, rising
abbrev pub near_slots : Frame → (s : ℕ) → List ℕ
near_slots f s = let g : GraphOf = f.graph in meeting_slots g.grid f.all (slot_at f.all s)

-- the numbers with one more where it belongs, unless it is there
abbrev pub with_number : List ℕ → ℕ → List ℕ
with_number [] k = k ∷ []
with_number (x ∷ xs) k = if nat_lt k x then k ∷ x ∷ xs
    else if x == k then x ∷ xs else x ∷ with_number xs k

-- with the number that was found, if one was
abbrev pub with_found : List ℕ → Option ℕ → List ℕ
with_found xs None = xs
with_found xs (Some k) = with_number xs k

-- the number of a slot, if it is one of these
abbrev pub found_number : List Slot → Slot → Option ℕ
found_number all slot = position_from (same_slot slot) 0 all

-- the slot of the net in the cell along this side of the pin's place, if the pin touches it
abbrev pub side_slot : GraphOf → List Slot → (n : ℕ) → PinAt → Side → Option ℕ
side_slot g all n pin side = option_and_then
    (λ cell. if touches g.arch g.grid pin cell
    then found_number all (record { net = n; cell = cell }) else None) (cell_beside pin side)

-- the slots near slot s of a route
abbrev pub near_of : RouteText → (s : ℕ) → List ℕ
near_of route s = meeting_slots route.grid (slots route) (slot_at (slots route) s)

-- the numbers of each row
abbrev pub rows_of : List (ArrayVec ℕ) → List (List ℕ)
rows_of table = map (λ (row : ArrayVec ℕ). row.items) table

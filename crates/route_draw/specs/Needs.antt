-- How many tracks the cells of a route want.
use Rattle.std.specs.Prelude.{◌≡◌, ℕ, ◌+◌, ◌==◌, ◌&&◌, Bool, true, false, not, IsTrue, List, [], ◌∷◌, filter, flat_map, is_some, length, nat_lt, slice_index, if◌then◌else◌}
use Rattle.std.specs.List.{list_any}
use Rattle.std.specs.Option.{option_map_or}
use Rattle.fpga_types.specs.CellNumbers.{cell_count, number_of_cell}
use Rattle.fpga_types.specs.Fabric.{is_cell, same_cell}
use Rattle.fpga_types.specs.Size.{Size}
use Rattle.fpga_types.specs.Slots.{elem_cell, slots}
use Rattle.fpga_types.specs.declared.grid.Cell.{Cell}
use Rattle.fpga_types.specs.declared.problem.Slot.{Slot}
use Rattle.fpga_types.specs.declared.route.Elem.{Elem}
use Rattle.fpga_types.specs.declared.route.RouteNet.{RouteNet}
use Rattle.fpga_types.specs.declared.route.RouteText.{RouteText}

-- it is a channel line with another track than 0
abbrev pub has_track : Elem → Bool
has_track e = is_some (elem_cell e) && not (e.number == 0)

-- the lines of the nets
abbrev pub lines_of : List RouteNet → List Elem
lines_of nets = flat_map (λ (net : RouteNet). net.elems) nets

-- a net has another track than 0, so that the route is no global one
abbrev pub has_tracks : List RouteNet → Bool
has_tracks nets = list_any (λ (net : RouteNet). list_any has_track net.elems) nets

-- how many tracks a line asks for in a cell: those up to its own, if it is a channel line there
abbrev pub asked_by : Cell → Elem → ℕ
asked_by cell e = if option_map_or (λ at. same_cell at cell) (elem_cell e) false
    then e.number + 1 else 0

-- the greater number
abbrev pub greater : (a b : ℕ) → ℕ
greater a b = if nat_lt a b then b else a

-- the most that one of these lines asks for, where so many are asked for before
abbrev pub most_from : (before : ℕ) → Cell → List Elem → ℕ
most_from before cell [] = before
most_from before cell (e ∷ es) = most_from (greater before (asked_by cell e)) cell es

abbrev pub most_asked : Cell → List Elem → ℕ
most_asked cell es = most_from 0 cell es

-- how many of the slots are in a cell
abbrev pub slots_in : Cell → List Slot → ℕ
slots_in cell all = length (filter (λ (slot : Slot). same_cell slot.cell cell) all)

-- how many tracks a cell of a route wants: those up to the highest there, and where nets stand side
-- by side as many as go through it
abbrev pub wanted : (on_tracks : Bool) → RouteText → Cell → ℕ
wanted true route cell = most_asked cell (lines_of route.nets)
wanted false route cell = slots_in cell (slots route)

-- each cell of the array has its number in a table, at its place
pub record AreNeeds (grid : Size) (wants : Cell → ℕ) (needs : List ℕ) : Type 0 where
  pub count : length needs ≡ cell_count grid
  pub need : (cell : Cell) → IsTrue (is_cell grid cell)
      → slice_index needs (number_of_cell grid cell) ≡ wants cell

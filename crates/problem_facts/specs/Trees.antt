-- Trees: slots that steps join, each with the first of them, which stands for it.
use Rattle.std.specs.Prelude.{◌≡◌, ℕ, zero, suc, ◌<◌, ◌≤◌, ◌==◌, ◌&&◌, nat_lt, min, max, IsTrue, Bool, not, List, [], ◌∷◌, ◌++◌, length, find, All, slice_index, slice_index_or}
use Rattle.std.specs.List.{list_any}
use Rattle.std.specs.Option.{option_map_or}
use Rattle.fpga_types.specs.CellNumbers.{number_of_cell}
use Rattle.fpga_types.specs.Fabric.{is_cell}
use Rattle.fpga_types.specs.Size.{Size}
use Rattle.fpga_types.specs.Slots.{slot_at}
use Rattle.fpga_types.specs.declared.limits.TheConstants.{SLOT_LIMIT}
use Rattle.fpga_types.specs.declared.problem.RouteStep.{RouteStep}
use Rattle.fpga_types.specs.declared.problem.Slot.{Slot}
use Rattle.route_encode.specs.Encoding.{below}

-- each step is between two of so many slots
abbrev pub AreWithin : ℕ → List RouteStep → Type 0
AreWithin count steps = All (λ step. (step.from < count) × (step.to < count)) steps

-- the slots of a step, the earlier and the later one
abbrev pub earlier_of : RouteStep → ℕ
earlier_of step = min step.from step.to

abbrev pub later_of : RouteStep → ℕ
later_of step = max step.from step.to

-- the step joins the slot with an earlier one
abbrev pub leads_to : ℕ → RouteStep → Bool
leads_to s step = later_of step == s && nat_lt (earlier_of step) s

-- the earlier slot from which the first step leads to this one, or the slot itself where none does
abbrev pub reached_from : List RouteStep → (s : ℕ) → ℕ
reached_from steps s = option_map_or earlier_of (find (leads_to s) steps) s

-- for each of the first n slots the slot that stands for its tree: that of the slot from which it
-- is reached, or itself
abbrev pub roots_of : List RouteStep → (n : ℕ) → List ℕ
roots_of steps zero = []
roots_of steps (suc n) =
    roots_of steps n ++ slice_index_or (roots_of steps n) (reached_from steps n) n ∷ []

-- these are slots of an array, with the slot that stands for the tree of each
pub record AreRooted (grid : Size) (all : List Slot) (roots : List ℕ) : Type 0 where
  pub few : length all ≤ SLOT_LIMIT
  pub there : All (λ slot. IsTrue (is_cell grid slot.cell)) all
  pub each : length roots ≡ length all
  pub within : All (λ root. root < length all) roots

-- the slot is of this tree, and takes the cell with this number
abbrev pub is_tree_in : Size → List Slot → (roots : List ℕ) → (tree number s : ℕ) → Bool
is_tree_in grid all roots tree number s =
    slice_index roots s == tree && number_of_cell grid (slot_at all s).cell == number

-- a slot of the tree takes the cell with this number
abbrev pub has_cell : Size → List Slot → (roots : List ℕ) → (tree number : ℕ) → Bool
has_cell grid all roots tree number =
    list_any (is_tree_in grid all roots tree number) (below (length all))

-- the slot is of tree a and takes a cell that tree b takes too
abbrev pub is_meeting_slot : Size → List Slot → (roots : List ℕ) → (a b s : ℕ) → Bool
is_meeting_slot grid all roots a b s = slice_index roots s == a
    && has_cell grid all roots b (number_of_cell grid (slot_at all s).cell)

-- trees a and b meet: they are of different nets, and have slots of one cell
abbrev pub meet : Size → List Slot → (roots : List ℕ) → (a b : ℕ) → Bool
meet grid all roots a b = not ((slot_at all a).net == (slot_at all b).net)
    && list_any (is_meeting_slot grid all roots a b) (below (length all))

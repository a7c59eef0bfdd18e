-- What forbids a width by numbers alone: slots that are to have different tracks, and are more than
-- there are tracks.
use Rattle.std.specs.Prelude.{◌≡◌, ℕ, suc, ◌<◌, ◌≤◌, List, length, take, ◌⊎◌}
use Rattle.fpga_types.specs.Problem.{RoutingProblem}
use Rattle.fpga_types.specs.Size.{Size}
use Rattle.fpga_types.specs.Slots.{slots}
use Rattle.fpga_types.specs.declared.arch.Pattern.TheVariants.{Subset}
use Rattle.fpga_types.specs.declared.problem.Slot.{Slot}
use Rattle.problem_facts.specs.Fullest.{slots_in}
use Rattle.route_count.specs.declared.crowded.Crowding.{Crowding}
use Rattle.route_count.specs.declared.crowded.Crowding.TheVariants.{Cell, Crowd}

-- the slots of the cell with this number
abbrev pub slots_of_cell : RoutingProblem → (number : ℕ) → List ℕ
slots_of_cell p number = slots_in p.route.grid (slots p.route) number

-- some cell has more slots than there are tracks
abbrev pub HasCrowdedCell : (width : ℕ) → RoutingProblem → Type 0
HasCrowdedCell width p = (number : ℕ) × (width < length (slots_of_cell p number))

-- switch blocks keep tracks, and this crowd has more trees than there are tracks
abbrev pub HasLargeCrowd : (width : ℕ) → RoutingProblem → (crowd : List ℕ) → Type 0
HasLargeCrowd width p crowd = (p.arch.pattern ≡ Subset) × (width < length crowd)

-- one of the two
abbrev pub IsCrowded : (width : ℕ) → RoutingProblem → (crowd : List ℕ) → Type 0
IsCrowded width p crowd = HasCrowdedCell width p ⊎ HasLargeCrowd width p crowd

-- no cell has more of these slots than there are tracks
abbrev pub AreSpread : (width : ℕ) → Size → List Slot → Type 0
AreSpread width grid all = (number : ℕ) → length (slots_in grid all number) ≤ width

-- these are the first of the slots of a cell, or of the trees of this crowd, one more than there
-- are tracks
abbrev pub IsCrowding : (width : ℕ) → RoutingProblem → (crowd : List ℕ) → Crowding → Type 0
IsCrowding width p crowd (Cell row) = (number : ℕ) × (width < length (slots_of_cell p number))
    × (row.items ≡ take (suc width) (slots_of_cell p number))
IsCrowding width p crowd (Crowd row) = (p.arch.pattern ≡ Subset) × (width < length crowd)
    × (row.items ≡ take (suc width) crowd)

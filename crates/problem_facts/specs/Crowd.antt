-- Crowds: trees of which each two meet.
use Rattle.std.specs.Prelude.{◌≡◌, ℕ, ◌<◌, ◌≤◌, ◌&&◌, min, nat_lt, Bool, true, List, [], ◌∷◌, ◌++◌, length, map, All, slice_index, if◌then◌else◌}
use Rattle.std.specs.List.{AllPairs, list_all}
use Rattle.fpga_types.specs.CellNumbers.{cell_count}
use Rattle.fpga_types.specs.Problem.{RoutingProblem}
use Rattle.fpga_types.specs.Size.{Size}
use Rattle.fpga_types.specs.Slots.{slots, steps}
use Rattle.fpga_types.specs.declared.problem.Slot.{Slot}
use Rattle.route_encode.specs.Encoding.{below}
use Rattle.problem_facts.specs.Fullest.{slots_in}
use Rattle.problem_facts.specs.Trees.{meet, roots_of}
use Rattle.problem_facts.specs.declared.limits.TheConstants.{CROWD_LIMIT}

-- the taken trees, and this one too if it meets each of them and there is room
abbrev pub joined_by : (meets : ℕ → ℕ → Bool) → (taken : List ℕ) → (tree : ℕ) → List ℕ
joined_by meets taken tree =
    if list_all (meets tree) taken && nat_lt (length taken) CROWD_LIMIT then taken ++ tree ∷ []
    else taken

-- the taken trees, joined by each of these in turn
abbrev pub gathered : (meets : ℕ → ℕ → Bool) → (taken : List ℕ) → (trees : List ℕ) → List ℕ
gathered meets taken [] = taken
gathered meets taken (tree ∷ trees) = gathered meets (joined_by meets taken tree) trees

-- the trees that are gathered from some slots on: theirs, and then all, in their order
abbrev pub gathered_from : Size → List Slot → (roots : List ℕ) → (front : List ℕ) → List ℕ
gathered_from grid all roots front =
    gathered (meet grid all roots) []
    (map (slice_index roots) (front ++ below (length all)))

-- the longer one, the first if they are equally long
abbrev pub longer : (a b : List ℕ) → List ℕ
longer a b = if nat_lt (length a) (length b) then b else a

-- these are gathered from some slots on, and are no fewer than those from the cell's slots on
pub record IsGatheredFrom (grid : Size) (all : List Slot) (roots : List ℕ) (cell : ℕ)
    (crowd : List ℕ) : Type 0 where
  pub front : List ℕ
  pub within : All (λ s. s < length all) front
  pub same : crowd ≡ gathered_from grid all roots front
  pub many : length (gathered_from grid all roots (slots_in grid all cell)) ≤ length crowd

-- each of the trees meets those before it
abbrev pub AreMeeting : (meets : ℕ → ℕ → Bool) → (trees : List ℕ) → Type 0
AreMeeting meets trees = AllPairs (λ earlier later. meets later earlier ≡ true) trees

-- for each slot of a problem the one that stands for its tree
abbrev pub tree_of : RoutingProblem → List ℕ
tree_of p = roots_of (steps p.route) (length (slots p.route))

-- these are trees of a problem, by their first slots, at most 128, of which each two are of
-- different nets and share a cell; and they are no fewer than the slots of any cell, as far as
-- there is room
pub record IsCrowd (p : RoutingProblem) (crowd : List ℕ) : Type 0 where
  pub few : length crowd ≤ CROWD_LIMIT
  pub within : All (λ s. s < length (slots p.route)) crowd
  pub firsts : All (λ s. slice_index (tree_of p) s ≡ s) crowd
  pub met : AreMeeting (meet p.route.grid (slots p.route) (tree_of p)) crowd
  pub many : (number : ℕ) → number < cell_count p.route.grid
      → min (length (slots_in p.route.grid (slots p.route) number)) CROWD_LIMIT ≤ length crowd

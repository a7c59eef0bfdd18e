-- How a crowd is gathered: which slots are left, and what is marked of them.
use Rattle.std.specs.Prelude.{◌≡◌, ℕ, ◌<◌, ◌≤◌, ◌==◌, ◌&&◌, not, Bool, true, false, List, [], length, map, All, Contains, slice_index, slice_index_or}
use Rattle.std.specs.List.{list_all, list_any}
use Rattle.fpga_types.specs.CellNumbers.{number_of_cell}
use Rattle.fpga_types.specs.Size.{Size}
use Rattle.fpga_types.specs.Slots.{slot_at}
use Rattle.fpga_types.specs.declared.problem.Slot.{Slot}
use Rattle.problem_facts.specs.Crowd.{gathered}
use Rattle.problem_facts.specs.Trees.{is_tree_in}
use Rattle.problem_facts.specs.declared.limits.TheConstants.{CROWD_LIMIT}

-- the row says of each cell, by number, whether one of these slots is of the tree and takes it
abbrev pub AreHeld : Size → List Slot → (roots : List ℕ) → (tree : ℕ) → (rest : List ℕ)
    → List Bool → Type 0
AreHeld grid all roots tree rest held = (number : ℕ) → number < length held
    → slice_index_or held number false ≡ list_any (is_tree_in grid all roots tree number) rest

-- the slot is of the tree, and its cell is held
abbrev pub is_touching : Size → List Slot → (roots : List ℕ) → (held : List Bool)
    → (tree s : ℕ) → Bool
is_touching grid all roots held tree s = slice_index roots s == tree
    && slice_index_or held (number_of_cell grid (slot_at all s).cell) false

-- the row says of each tree, by its first slot, whether one of these slots is of it and takes a
-- cell that is held
abbrev pub AreMarked : Size → List Slot → (roots : List ℕ) → (held : List Bool) → (rest : List ℕ)
    → List Bool → Type 0
AreMarked grid all roots held rest marked = (tree : ℕ) → tree < length marked
    → slice_index_or marked tree false ≡ list_any (is_touching grid all roots held tree) rest

-- the slot's tree is marked, and is of another net than this one
abbrev pub is_kept : List Slot → (roots : List ℕ) → (marked : List Bool) → (net s : ℕ) → Bool
is_kept all roots marked net s = not ((slot_at all (slice_index roots s)).net == net)
    && slice_index_or marked (slice_index roots s) false

-- these are slots, and with each of them there are all of its tree
pub record AreWhole (roots rest : List ℕ) : Type 0 where
  pub within : All (λ s. s < length roots) rest
  pub whole : (s t : ℕ) → Contains rest s → t < length roots
      → slice_index roots t ≡ slice_index roots s → Contains rest t

-- the trees that are taken and the slots that are left make what is to be gathered: these are whole
-- trees, which meet all that are taken
pub record AreGathered (meets : ℕ → ℕ → Bool) (roots : List ℕ) (whole : List ℕ)
    (taken rest : List ℕ) : Type 0 where
  pub room : length taken ≤ CROWD_LIMIT
  pub same : gathered meets taken (map (slice_index roots) rest)
      ≡ gathered meets [] (map (slice_index roots) whole)
  pub met : All (λ s. list_all (meets (slice_index roots s)) taken ≡ true) rest
  pub trees : AreWhole roots rest

-- Slots in which trees meet, and how they are found.
use Rattle.std.specs.Prelude.{◌≡◌, ◌≢◌, ℕ, ◌+◌, ◌*◌, ◌<◌, ◌≤◌, true, List, length, Option, None, Some, slice_index, slice_index_or}
use Rattle.std.specs.List.{AllPairs}
use Rattle.fpga_types.specs.CellNumbers.{number_of_cell}
use Rattle.fpga_types.specs.Size.{Size}
use Rattle.fpga_types.specs.Slots.{slot_at}
use Rattle.fpga_types.specs.declared.problem.Slot.{Slot}
use Rattle.problem_facts.specs.Trees.{meet}
use Rattle.sat_count.specs.declared.limits.TheConstants.{COUNTED_LIMIT}
use Rattle.problem_facts.specs.Leads.{TreesState, root_at}
use Rattle.route_count.specs.declared.meetings.Meeting.{Meeting}

-- slots of the trees of a and b, which are of different nets, both of one cell
pub record IsMeeting (all : List Slot) (t : TreesState) (a b : ℕ) (m : Meeting) : Type 0 where
  pub lower : m.lower < length all
  pub higher : m.higher < length all
  pub of_lower : root_at t m.lower ≡ a
  pub of_higher : root_at t m.higher ≡ b
  pub cells : (slot_at all m.lower).cell ≡ (slot_at all m.higher).cell
  pub nets : (slot_at all a).net ≢ (slot_at all b).net

-- each two trees of the row meet
abbrev pub DoMeet : Size → List Slot → (roots row : List ℕ) → Type 0
DoMeet grid all roots row = AllPairs (λ a b. meet grid all roots b a ≡ true) row

-- what is found for two places of a row
abbrev pub meeting_at : List (Option Meeting) → (lower higher : ℕ) → Option Meeting
meeting_at found lower higher = slice_index_or found (higher * COUNTED_LIMIT + lower) None

-- for each two of the first n slots of a row it is found where their trees meet
abbrev pub AreFound : List Slot → TreesState → (row : List ℕ) → (n : ℕ) → List (Option Meeting)
    → Type 0
AreFound all t row n found = (lower higher : ℕ) → lower < higher → higher < n
    → (meeting_at found lower higher ≢ None)
    × ((m : Meeting) → meeting_at found lower higher ≡ Some m
    → IsMeeting all t (slice_index row lower) (slice_index row higher) m)

-- of the first n slots of a row each has its place, and no other number has one
pub record ArePlaces (row : List ℕ) (n : ℕ) (places : List (Option ℕ)) : Type 0 where
  pub there : (at : ℕ) → at < n → slice_index_or places (slice_index row at) None ≡ Some at
  pub alone : (s at : ℕ) → s < length places → slice_index_or places s None ≡ Some at
      → (at < n) × (slice_index row at ≡ s)

-- the number of a slot's cell
abbrev pub number_at : Size → List Slot → (s : ℕ) → ℕ
number_at grid all s = number_of_cell grid (slot_at all s).cell

-- each cell that one of the first n slots takes for a tree has such a slot, and no other cell has
-- one
pub record AreTaken (grid : Size) (all : List Slot) (t : TreesState) (root n : ℕ)
    (taken : List (Option ℕ)) : Type 0 where
  pub there : (s : ℕ) → s < n → root_at t s ≡ root
      → slice_index_or taken (number_at grid all s) None ≢ None
  pub alone : (number s : ℕ) → number < length taken → slice_index_or taken number None ≡ Some s
      → (s < n) × (root_at t s ≡ root) × (number_at grid all s ≡ number)

-- none of the first n slots of a tree has a cell that is taken, or one of them has it with the slot
-- that takes it
abbrev pub IsNoted : Size → List Slot → TreesState → (taken : List (Option ℕ)) → (root n : ℕ)
    → Option Meeting → Type 0
IsNoted grid all t taken root n None = (s : ℕ) → s < n → root_at t s ≡ root
    → slice_index_or taken (number_at grid all s) None ≡ None
IsNoted grid all t taken root n (Some m) = (m.lower < n) × (root_at t m.lower ≡ root)
    × (slice_index_or taken (number_at grid all m.lower) None ≡ Some m.higher)

-- so it is of the trees of the slots before a place of the row
abbrev pub AreNoted : Size → List Slot → TreesState → (taken : List (Option ℕ)) → (row : List ℕ)
    → (at n : ℕ) → List (Option Meeting) → Type 0
AreNoted grid all t taken row at n found = (lower : ℕ) → lower < at
    → IsNoted grid all t taken (slice_index row lower) n (meeting_at found lower at)

-- what is found for other places is as it was
abbrev pub KeepsOthers : (at : ℕ) → (old new : List (Option Meeting)) → Type 0
KeepsOthers at old new = (lower higher : ℕ) → lower < COUNTED_LIMIT → higher ≢ at
    → meeting_at new lower higher ≡ meeting_at old lower higher

-- nothing is found from this place on
abbrev pub AreUnknown : (at : ℕ) → List (Option Meeting) → Type 0
AreUnknown at found = (lower higher : ℕ) → lower < COUNTED_LIMIT → at ≤ higher
    → higher < COUNTED_LIMIT → meeting_at found lower higher ≡ None

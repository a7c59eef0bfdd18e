-- The live clauses: what contracts see, and how they lie.
use Rattle.std.specs.Prelude.{◌≡◌, ℕ, zero, suc, ◌+◌, ◌<◌, ◌≤◌, nat_lt, if◌then◌else◌, length, Option, None, Some}
use Rattle.std.specs.Option.{option_or}
use Rattle.sat_check.specs.DerivedStore.{DerivedState, derived_at, key_at}
use Rattle.sat_clause.specs.Live.{Live}
use Rattle.sat_check.specs.Finder.{AllWithin, Finder, Finds}
use Rattle.sat_check.specs.InputStore.{InputState, input_at}

-- the number of variables, the inputs that are live, and the clauses that steps have added
pub record LiveState : Type 0 where
  pub vars : ℕ
  pub inputs : InputState
  pub derived : DerivedState

-- the clauses of the first, and under other ids those of the second
abbrev pub joined : Finder → Finder → Finder
joined first second id = option_or (first id) (second id)

-- the live clause with an id
abbrev pub live_at : LiveState → Finder
live_at state = joined (input_at state.inputs) (derived_at state.derived)

-- these are the live clauses
abbrev pub HasLive : LiveState → Live → Type 0
HasLive state live = Finds (live_at state) live

-- the clauses have the variables 1 to n, and the first cell is behind the marks of the inputs
pub record IsLiveStore (n : ℕ) (inputs : InputState) (derived : DerivedState) : Type 0 where
  pub few : inputs.vars ≤ n
  pub within : AllWithin n (derived_at derived)
  pub next : derived.first ≡ length inputs.marks + 1

-- the last id that has a mark or a cell
abbrev pub last_placed : LiveState → ℕ
last_placed state = length state.inputs.marks + length state.derived.table

-- the id is one of 1 to the last that has a place
abbrev pub IsPlaced : (last id : ℕ) → Type 0
IsPlaced last id = (1 ≤ id) × (id ≤ last)

-- the id, unless it has a place
abbrev pub unless_placed : ℕ → Option ℕ → Option ℕ
unless_placed last None = None
unless_placed last (Some zero) = Some zero
unless_placed last (Some (suc n)) = if nat_lt n last then None else Some (suc n)

-- the id at a position of the map, unless it has a place
abbrev pub scattered_id : LiveState → ℕ → Option ℕ
scattered_id state at = unless_placed (last_placed state) (key_at state.derived.others at)

-- the id stands at one of so many positions
abbrev pub StandsBefore : ℕ → (ℕ → Option ℕ) → ℕ → Type 0
StandsBefore count id_at id = (at : ℕ) × (at < count) × (id_at at ≡ Some id)

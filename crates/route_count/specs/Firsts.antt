-- The first level of a count, and what leads to it.
use Rattle.std.specs.Prelude.{◌≡◌, ℕ, ◌+◌, ◌*◌, ◌<◌, ◌≤◌, ◌⊎◌, Bool, true, false, List, map, length, Option, Some, slice_index, slice_index_or}
use Rattle.sat_clause.specs.Formula.{Cnf}
use Rattle.sat_clause.specs.Literal.{Clause}
use Rattle.sat_count.specs.Firsts.{first_apart, first_some}
use Rattle.sat_count.specs.Refuting.{Holds, RefutationState}
use Rattle.problem_facts.specs.Leads.{TreesState, lead_at, root_at}
use Rattle.route_count.specs.Meetings.{meeting_at}
use Rattle.route_count.specs.Said.{IsInput, apart_clause, led_clause}
use Rattle.route_count.specs.declared.meetings.Meeting.{Meeting}
use Rattle.problem_facts.specs.declared.trees.Lead.{Lead}

-- for each slot of a row the variable by which it has the first track, by its number less one
abbrev pub firsts_of : (width : ℕ) → (row : List ℕ) → List ℕ
firsts_of width row = map (λ s. s * width) row

-- the slot at a place of the row has a track
abbrev pub some_of : (width : ℕ) → (row : List ℕ) → (place : ℕ) → Clause
some_of width row place = first_some width (firsts_of width row) place

-- the slots at two places do not both have the track
abbrev pub apart_of : (width : ℕ) → (row : List ℕ) → (lower higher track : ℕ) → Clause
apart_of width row lower higher track = first_apart (firsts_of width row) lower higher track

-- behind this id stand the clauses that the slot has each track of the first one of its tree,
-- unless it is come to from that one
abbrev pub IsLed : RefutationState → TreesState → (width behind s : ℕ) → Type 0
IsLed r t width behind s = (lead before : Lead) (track : ℕ) → lead_at t s ≡ Some lead
    → lead_at t lead.from ≡ Some before → track < width
    → Holds r (behind + track + 1) (led_clause width (root_at t s) s track)

-- so it is for those of the first n slots that are passed
abbrev pub AreLed : RefutationState → TreesState → (width n : ℕ) → (passed : List Bool)
    → (led : List ℕ) → Type 0
AreLed r t width n passed led = (s : ℕ) → s < n → slice_index_or passed s false ≡ true
    → IsLed r t width (slice_index led s) s

-- so it is for each slot in which trees of the first n slots of a row meet
abbrev pub AreReady : RefutationState → TreesState → (width n : ℕ)
    → (found : List (Option Meeting)) → (led : List ℕ) → Type 0
AreReady r t width n found led = (lower higher : ℕ) (m : Meeting) → lower < higher → higher < n
    → meeting_at found lower higher ≡ Some m
    → IsLed r t width (slice_index led m.lower) m.lower
    × IsLed r t width (slice_index led m.higher) m.higher

-- each such slot is marked
abbrev pub AreMarked : (n : ℕ) → (found : List (Option Meeting)) → (passed : List Bool) → Type 0
AreMarked n found passed = (lower higher : ℕ) (m : Meeting) → lower < higher → higher < n
    → meeting_at found lower higher ≡ Some m
    → (slice_index_or passed m.lower false ≡ true) × (slice_index_or passed m.higher false ≡ true)

-- what is marked is so still
abbrev pub KeepsMarks : (old new : List Bool) → Type 0
KeepsMarks old new =
    (s : ℕ) → slice_index_or old s false ≡ true → slice_index_or new s false ≡ true

-- with each marked slot from number k on the one from which it is come to is marked
abbrev pub AreClosed : TreesState → (k : ℕ) → (passed : List Bool) → Type 0
AreClosed t k passed = (s : ℕ) (lead : Lead) → k ≤ s → s < length passed
    → slice_index_or passed s false ≡ true → lead_at t s ≡ Some lead
    → slice_index_or passed lead.from false ≡ true

-- the clause with the id says that the slots of a meeting do not both have the track
abbrev pub IsMet : Cnf → (width track : ℕ) → Meeting → (id : ℕ) → Type 0
IsMet cnf width track m id = IsInput cnf id (apart_clause width m.lower m.higher track)
    ⊎ IsInput cnf id (apart_clause width m.higher m.lower track)

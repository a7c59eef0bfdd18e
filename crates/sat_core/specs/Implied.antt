-- The entries that those met by an analysis imply, as far as a walk over their reasons has found
-- out.
use Rattle.std.specs.Prelude.{◌≡◌, ◌≢◌, ◌⊎◌, ℕ, ◌+◌, ◌-◌, ◌≤◌, ◌<◌, Bool, true, false, List, [], length, slice_index_or, Some, All, Vec, vec_len, vec_capacity}
use Rattle.std.specs.Global.{Global}
use Rattle.sat_clause.specs.Literal.{Clause}
use Rattle.sat_arena.specs.declared.clause_ref.ClauseRef.{ClauseRef}
use Rattle.sat_watch.specs.declared.entry.TrailEntry.{TrailEntry}
use Rattle.sat_watch.specs.Watches.{WatchState, lits_at}
use Rattle.sat_core.specs.Analysis.{AreOn, HasLevel, IsAt, IsFalsePlace, IsKnown}
use Rattle.sat_core.specs.Marks.{IsClean, IsMet, MarkState}
use Rattle.sat_core.specs.declared.visit.Visit.{Visit}

-- the places visited, of which those that are implied are marked as used; and the visits that are
-- not at their end, the newest last
pub record WalkState : Type 0 where
  pub marks : MarkState
  pub visits : List Visit

-- there is room for a visit of each place
pub record IsWalkStore (marks : MarkState) (visits : Vec Visit Global) : Type 0 where
  pub few : vec_len visits ≤ length marks.places
  pub room : length marks.met ≤ vec_capacity visits

-- nothing is visited
pub record IsAtRest (walk : WalkState) : Type 0 where
  pub clean : IsClean walk.marks
  pub none : walk.visits ≡ []

-- how many steps a walk may still take
abbrev pub steps_left : WalkState → ℕ
steps_left walk =
    (length walk.marks.met - length walk.marks.places)
    + (length walk.marks.met - length walk.marks.places) + length walk.visits

-- the place needs no literal in the clause: it is of level 0 or implied
abbrev pub IsLeftOut : List TrailEntry → List Bool → ℕ → Type 0
IsLeftOut trail implied place =
    HasLevel trail 0 place ⊎ (slice_index_or implied place false ≡ true)

-- the place of each false literal of the clause was met, or needs no literal
abbrev pub IsCovered : List TrailEntry → MarkState → List Bool → Clause → Type 0
IsCovered trail s implied lits = (place : ℕ) → IsFalsePlace trail lits place →
    IsMet s place ⊎ IsLeftOut trail implied place

-- the entry at the place is of a lower level, and its reason is covered
abbrev pub IsImplied : WatchState → MarkState → List Bool → ℕ → Type 0
IsImplied w s implied place = (e : TrailEntry) × IsAt w.trail place e × (e.level ≢ w.level)
    × ((c : ClauseRef) × (e.reason ≡ Some c)
    × IsCovered w.trail s implied (lits_at w.clauses c))

-- so is each place that is marked as implied
abbrev pub AreImplied : WatchState → MarkState → List Bool → Type 0
AreImplied w s implied = (place : ℕ) → slice_index_or implied place false ≡ true →
    IsImplied w s implied place

-- what a walk keeps: what it marks is implied, its visits are of entries, and there are as many
-- marks as those of the analysis
pub record IsWalking (w : WatchState) (s : MarkState) (walk : WalkState) : Type 0 where
  pub implied : AreImplied w s walk.marks.used
  pub on : All (λ v. v.place < length w.trail) walk.visits
  pub size : length walk.marks.met ≡ length s.met

-- what a walk has ended with, beside the marks of an analysis that goes on
pub record IsWalked (w : WatchState) (s : MarkState) (walk : WalkState) : Type 0 where
  pub known : IsKnown w
  pub size : w.vars ≤ length s.met
  pub on : AreOn w.trail s
  pub walking : IsWalking w s walk

-- the marks of an analysis beside a walk at rest over as many places
pub record IsFindings (marks : MarkState) (walk : WalkState) : Type 0 where
  pub size : length walk.marks.met ≡ length marks.met
  pub rest : IsAtRest walk

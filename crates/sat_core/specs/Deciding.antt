-- Decisions over watches: which variables have values, and what a row of decisions leaves.
use Rattle.std.specs.Prelude.{◌≡◌, ◌≢◌, ℕ, ◌<◌, ◌≤◌, Bool, true, false, IsTrue, List, None}
use Rattle.sat_clause.specs.declared.literal.Lit.{Lit}
use Rattle.sat_clause.specs.Formula.{makes_true}
use Rattle.sat_clause.specs.Literal.{IsWithin, is_among, positive}
use Rattle.sat_clause.specs.Trail.{IsClosed}
use Rattle.sat_arena.specs.declared.clause_ref.ClauseRef.{ClauseRef}
use Rattle.sat_watch.specs.declared.entry.TrailEntry.{TrailEntry}
use Rattle.sat_watch.specs.Trail.{falses, lits_of, value_in}
use Rattle.sat_watch.specs.Watched.{AreFalse}
use Rattle.sat_watch.specs.Watches.{SameClauses, WatchState, assumed, is_attached, lits_at}
use Rattle.sat_core.specs.SearchStore.{IsLeveled}

-- the variables below this number have values
abbrev pub HaveValues : List TrailEntry → ℕ → Type 0
HaveValues trail n = (k : ℕ) → 1 ≤ k → k < n → value_in trail (positive k) ≢ None

-- the clauses are the same as sets, the levels are still those of the decisions, and none is
-- pending
pub record GoesOn (old new : WatchState) : Type 0 where
  pub vars : new.vars ≡ old.vars
  pub pending : new.pending ≡ None
  pub clauses : SameClauses old.clauses new.clauses
  pub leveled : IsLeveled old → IsLeveled new

-- an open literal was decided
abbrev pub IsDecided : WatchState → WatchState → Type 0
IsDecided old new = (l : Lit) × (new ≡ assumed l old)

-- the clause with this reference is false
abbrev pub IsFalse : WatchState → ClauseRef → Type 0
IsFalse watches c =
    (is_attached watches.clauses c ≡ true) × AreFalse watches.trail (lits_at watches.clauses c)

-- the values make the literals true that are not false
abbrev pub AreValuesOf : List TrailEntry → ℕ → List Bool → Type 0
AreValuesOf trail vars values = IsClosed vars (lits_of trail) → (l : Lit) → IsWithin vars l →
    is_among (falses trail) l ≡ false → IsTrue (makes_true values l)

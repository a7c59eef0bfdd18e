-- What a search deletes, and what the log says of it.
use Rattle.std.specs.Prelude.{◌≡◌, ◌≢◌, ℕ, ◌+◌, ◌<◌, ◌≤◌, ℤ, pos, true, List, [], ◌∷◌, ◌++◌, map, reverse, slice_get, Some, All, AllPairs}
use Rattle.sat_clause.specs.Judge.{erase}
use Rattle.sat_clause.specs.Literal.{Clause}
use Rattle.sat_clause.specs.Live.{Live, named}
use Rattle.sat_clause.specs.Step.{Step, Erased}
use Rattle.sat_arena.specs.declared.clause_ref.ClauseRef.{ClauseRef}
use Rattle.sat_watch.specs.Delete.{IsNoReason, OthersMove, deleted}
use Rattle.sat_watch.specs.Watches.{Attached, WatchState, id_at, is_attached}
use Rattle.sat_core.specs.Kept.{SameLive}
use Rattle.sat_core.specs.SearchStore.{SameKept, assigned_in}
use Rattle.sat_core.specs.Stands.{IsAbove, SearchValue}

-- no clause of the list has an id above this one
abbrev pub IsLast : ℕ → Live → Type 0
IsLast above clauses =
    (k id : ℕ) (x : Clause) → slice_get (reverse clauses) k ≡ Some (id, x) → id ≤ above

-- these may go: attached clauses with ids above this one, each once, and none of them a reason
pub record MayGo (watches : WatchState) (above : ℕ) (refs : List ClauseRef) : Type 0 where
  pub attached : All (λ c. is_attached watches.clauses c ≡ true) refs
  pub learned : All (λ c. above < id_at watches.clauses c) refs
  pub no_reason : All (IsNoReason watches.trail) refs
  pub apart : AllPairs (λ a b. a.word < b.word) refs

-- the ids of these clauses, as a log names them
abbrev pub ids_of : List Attached → List ClauseRef → List ℤ
ids_of clauses refs = map (λ c. pos (id_at clauses c)) refs

-- clauses that may go are gone, at least one, and the log has one more step, which deletes them by
-- their ids behind this number
pub record HasErased
    (old new : WatchState) (before now : List Step) (above own : ℕ) : Type 0 where
  pub refs : List ClauseRef
  pub some : refs ≢ []
  pub may : MayGo old above refs
  pub is : new ≡ deleted refs old
  pub others : OthersMove refs old.clauses new.clauses
  pub trail : assigned_in new.clauses new.trail ≡ assigned_in old.clauses old.trail
  pub step : now ≡ before ++ Erased own (ids_of old.clauses refs) ∷ []

-- the number names a clause
abbrev pub IsNamed : Live → ℤ → Type 0
IsNamed live h = (c : Clause) × (named live h ≡ Some c)

-- the clauses with these ids, none of which is that of an input, are gone; the others stay, and the
-- numbers and the trail
pub record Deletes (old new : SearchValue) (ids : List ℤ) : Type 0 where
  pub named : All (IsNamed old.clauses) ids
  pub added : All (IsAbove old.inputs) ids
  pub apart : AllPairs (λ g h. g ≢ h) ids
  pub same_vars : new.vars ≡ old.vars
  pub same_inputs : new.inputs ≡ old.inputs
  pub same_added : new.added ≡ old.added
  pub same_trail : new.trail ≡ old.trail
  pub clauses : SameLive (erase old.clauses ids) new.clauses

-- the search has gone on with the same clauses, and then has deleted some; the log has one more
-- step, which deletes these, behind the id of the newest clause
pub record HasDeleted (old new : SearchValue) (before now : List Step) : Type 0 where
  pub propagated : SearchValue
  pub same : SameKept old propagated
  pub ids : List ℤ
  pub some : ids ≢ []
  pub deletes : Deletes propagated new ids
  pub step : now ≡ before ++ Erased (old.inputs + old.added) ids ∷ []

-- How a search lies, and what its steps say of it.
use Rattle.std.specs.Prelude.{◌≡◌, ◌≢◌, ◌⊎◌, ℕ, suc, ◌+◌, ◌<◌, ◌≤◌, ℤ, pos, true, List, [], ◌∷◌, ◌++◌, length, map, reverse, slice_get, All, Bool, None, Some, option_map}
use Rattle.sat_clause.specs.declared.literal.Lit.{Lit}
use Rattle.sat_clause.specs.declared.limits.TheConstants.{ID_LIMIT, VARIABLE_LIMIT}
use Rattle.sat_clause.specs.Formula.{IsTrueClause}
use Rattle.sat_clause.specs.Learned.{IsFresh, IsRelevant, IsSimple, SameLiterals}
use Rattle.sat_clause.specs.Literal.{Clause, IsLiteral, IsWithin}
use Rattle.sat_clause.specs.Live.{Live, clause_at, put}
use Rattle.sat_clause.specs.Rup.{rup}
use Rattle.sat_arena.specs.declared.clause_ref.ClauseRef.{ClauseRef}
use Rattle.sat_watch.specs.declared.entry.TrailEntry.{TrailEntry}
use Rattle.sat_watch.specs.Watches.{Attached, AreInPlace, WatchState, id_at, is_attached, lits_at}
use Rattle.sat_core.specs.ClauseList.{ClauseListState}
use Rattle.sat_core.specs.Kept.{AreAmong, AreBelow, HasOnce, SameLive}
use Rattle.sat_core.specs.Marks.{IsReady, MarkState}
use Rattle.sat_core.specs.Levels.{AreLevels, ArePropagated, Assigned, IsAsserting, IsDerived, IsPropagatedTrail, level_of, made_false, marked_ids}
use Rattle.sat_core.specs.Ranking.{IsRanked}
use Rattle.sat_core.specs.Stands.{SearchValue}
use Rattle.sat_order.specs.Order.{OrderState}

-- an entry with the id of its reason
abbrev pub assigned : List Attached → TrailEntry → Assigned
assigned clauses e =
    record { lit = e.lit; level = e.level; reason = option_map (id_at clauses) e.reason }

abbrev pub assigned_in : List Attached → List TrailEntry → List Assigned
assigned_in clauses trail = map (assigned clauses) trail

-- the attached clauses by their ids
abbrev pub live_of : List Attached → Live
live_of clauses = map (λ k. (k.id, k.lits)) clauses

-- a search with clauses that were laid aside beside the attached ones
abbrev pub search_value : (inputs added : ℕ) → ClauseListState → WatchState → SearchValue
search_value inputs added singles watches = record {
  vars = watches.vars;
  inputs = inputs;
  added = added;
  clauses = singles.clauses ++ live_of watches.clauses;
  trail = assigned_in watches.clauses watches.trail;
}

-- the attached clauses stand one behind another, without a variable twice; one with the id of a
-- clause that was laid aside is that clause, and the others are each of another id
pub record IsKeeping (vars : ℕ) (singles : Live) (clauses : List Attached) : Type 0 where
  pub stand : AreInPlace 0 clauses
  pub ids : (c d : ClauseRef) → is_attached clauses c ≡ true → is_attached clauses d ≡ true →
      clause_at singles (id_at clauses c) ≡ None → id_at clauses c ≡ id_at clauses d → c ≡ d
  pub agree : (c : ClauseRef) (x : Clause) → is_attached clauses c ≡ true →
      clause_at singles (id_at clauses c) ≡ Some x → SameLiterals x (lits_at clauses c)
  pub simple : (c : ClauseRef) → is_attached clauses c ≡ true → IsSimple vars (lits_at clauses c)

-- the trail's levels are those of its decisions
pub record IsLeveled (watches : WatchState) : Type 0 where
  pub levels : AreLevels (assigned_in watches.clauses watches.trail)
  pub current : watches.level ≡ level_of (assigned_in watches.clauses watches.trail)

-- so many of the clauses that were laid aside, the oldest, are attached
abbrev pub AreTaken : ℕ → Live → List Attached → Type 0
AreTaken taken singles clauses = (k id : ℕ) (x : Clause) → k < taken →
    slice_get (reverse singles) k ≡ Some (id, x) →
    (c : ClauseRef) × (is_attached clauses c ≡ true) × (id_at clauses c ≡ id)

-- the clauses are those of the inputs and of added clauses; until all that were laid aside are
-- attached nothing is decided, and none is pending
pub record IsSearchStore
    (inputs added taken : ℕ) (singles : ClauseListState) (watches : WatchState) : Type 0 where
  pub few_ids : inputs + added ≤ ID_LIMIT
  pub few : length singles.clauses ≤ inputs + added
  pub few_vars : watches.vars ≤ VARIABLE_LIMIT
  pub same_vars : singles.vars ≡ watches.vars
  pub below : AreBelow (suc (inputs + added)) (singles.clauses ++ live_of watches.clauses)
  pub few_taken : taken ≤ length singles.clauses
  pub once : (id : ℕ) (x : Clause) → clause_at singles.clauses id ≡ Some x → HasOnce x
  pub keeps : IsKeeping watches.vars singles.clauses watches.clauses
  pub taken_are : AreTaken taken singles.clauses watches.clauses
  pub waiting : (taken ≡ length singles.clauses) ⊎ (watches.level ≡ 0)
  pub leveled : IsLeveled watches
  pub none_pending : watches.pending ≡ None

-- and no mark is set, and each variable that is not held has a value
pub record IsSearching
    (inputs added taken : ℕ) (singles : ClauseListState) (watches : WatchState) (marks : MarkState)
    (order : OrderState)
    : Type 0 where
  pub store : IsSearchStore inputs added taken singles watches
  pub ready : IsReady watches.vars marks
  pub ranked : IsRanked watches.vars watches.trail order

-- the search has the same clauses as sets, and the same numbers
pub record SameKept (old new : SearchValue) : Type 0 where
  pub vars : new.vars ≡ old.vars
  pub inputs : new.inputs ≡ old.inputs
  pub added : new.added ≡ old.added
  pub among : AreAmong old.clauses new.clauses
  pub back : AreAmong new.clauses old.clauses
  pub once : (id : ℕ) (c : Clause) → clause_at new.clauses id ≡ Some c → HasOnce c

-- no clause is false and none makes a literal true
abbrev pub IsPropagatedState : SearchValue → Type 0
IsPropagatedState search = ArePropagated search.clauses (made_false search.trail)

-- there is a value for each variable, and they make each clause true that is of these variables
pub record AreTrue (search : SearchValue) (values : List Bool) : Type 0 where
  pub many : length values ≡ search.vars
  pub each : (id : ℕ) (c : Clause) → clause_at search.clauses id ≡ Some c →
      All (IsWithin (length values)) c → IsTrueClause values c

-- the clause is asserting, and its last literal became false at the current level
abbrev pub EndsAsserting : List Assigned → ℕ → Clause → Type 0
EndsAsserting trail back clause = (front : Clause) × (first : Lit)
    × (clause ≡ front ++ first ∷ []) × IsAsserting trail (level_of trail) back first clause

-- the clause comes of a clause that is kept and of the reasons of marked entries, and the hints are
-- the ids of these reasons in the order of the trail, and then that of the clause
abbrev pub HasDerivation : SearchValue → Clause → List ℤ → Type 0
HasDerivation search clause hints = (id : ℕ) × (conflict : Clause) × (marks : List Bool)
    × (clause_at search.clauses id ≡ Some conflict)
    × (hints ≡ marked_ids search.trail marks ++ pos id ∷ [])
    × IsDerived search.clauses search.trail conflict clause marks

-- at level 0 the clause is empty, and else it is asserting, with the way back to the highest level
-- of its other literals; it is derived, the hints justify it and are needed, and it is new
pub record IsLearnedClause
    (search : SearchValue) (clause : Clause) (hints : List ℤ) (back : ℕ)
    : Type 0 where
  pub none : level_of search.trail ≡ 0 → clause ≡ []
  pub asserts : 1 ≤ level_of search.trail → EndsAsserting search.trail back clause
  pub derived : HasDerivation search clause hints
  pub simple : IsSimple search.vars clause
  pub literals : All IsLiteral clause
  pub follows : rup search.clauses clause hints ≡ None
  pub relevant : IsRelevant search.clauses clause hints
  pub fresh : clause ≢ [] → IsFresh search.clauses clause
  pub trail : IsPropagatedTrail search.clauses search.vars search.trail

-- one more clause is kept, in some order of its literals, under the next id
pub record Learns (old new : SearchValue) (clause : Clause) : Type 0 where
  pub vars : new.vars ≡ old.vars
  pub inputs : new.inputs ≡ old.inputs
  pub added : new.added ≡ suc old.added
  pub order : Clause
  pub same : SameLiterals order clause
  pub once : HasOnce order
  pub clauses : SameLive (put old.clauses (suc (old.inputs + old.added)) order) new.clauses

-- The clauses of a formula that a search has taken in: first those of two literals, then the
-- others.
use Rattle.std.specs.Prelude.{◌≡◌, ℕ, suc, ◌<◌, ◌≤◌, ◌==◌, ◌++◌, nat_lt, not, Bool, true, false, ◌&&◌, ◌||◌, if◌then◌else◌, List, [], ◌∷◌, length, slice_get, Option, None, Some}
use Rattle.sat_clause.specs.declared.limits.TheConstants.{ID_LIMIT, VARIABLE_LIMIT}
use Rattle.sat_clause.specs.Formula.{Cnf}
use Rattle.sat_clause.specs.Learned.{IsSimple}
use Rattle.sat_clause.specs.Literal.{Clause, variable}
use Rattle.sat_clause.specs.Live.{Live, clause_at, put}
use Rattle.sat_arena.specs.declared.clause_ref.ClauseRef.{ClauseRef}
use Rattle.sat_watch.specs.Watches.{Attaches, WatchState}
use Rattle.sat_core.specs.ClauseList.{ClauseListState}
use Rattle.sat_core.specs.Kept.{AreKept, is_always_true}
use Rattle.sat_core.specs.SearchStore.{IsSearchStore, live_of}

-- two literals of different variables
abbrev pub is_pair : Clause → Bool
is_pair [] = false
is_pair (a ∷ []) = false
is_pair (a ∷ b ∷ []) = not (variable a == variable b)
is_pair (a ∷ b ∷ c ∷ rest) = false

-- which clauses, by their positions: the pairs below a position, or all pairs and what is below it
abbrev pub pairs_below : ℕ → ℕ → Clause → Bool
pairs_below n k clause = nat_lt k n && is_pair clause

abbrev pub pairs_and_below : ℕ → ℕ → Clause → Bool
pairs_and_below n k clause = is_pair clause || nat_lt k n

-- the clause, where the test picks it
abbrev pub picked : (Clause → Bool) → Option Clause → Option Clause
picked picks None = None
picked picks (Some clause) = if picks clause then Some clause else None

-- the clauses that are picked at their positions are kept, and nothing is true
pub record HasTaken
    (formula : Cnf) (picks : ℕ → Clause → Bool) (singles : ClauseListState) (watches : WatchState)
    : Type 0 where
  pub store : IsSearchStore (length formula.clauses) 0 0 singles watches
  pub vars : watches.vars ≡ formula.vars
  pub none_true : watches.trail ≡ []
  pub live : Live
  pub kept : AreKept (singles.clauses ++ live_of watches.clauses) live
  pub tells : (k : ℕ) →
      clause_at live (suc k) ≡ picked (picks k) (slice_get formula.clauses k)
  pub none_zero : clause_at live 0 ≡ None

-- the clause at a position is a pair or always true, if there is one
abbrev pub IsSettled : Cnf → ℕ → Type 0
IsSettled formula k = (c : Clause) → slice_get formula.clauses k ≡ Some c →
    is_pair c ≡ false → is_always_true c ≡ true

-- these positions rise from one to the one before another, and those between them are settled
abbrev pub AreLeft : Cnf → (from : ℕ) → List ℕ → (to : ℕ) → Type 0
AreLeft formula from [] to = (k : ℕ) → from ≤ k → k < to → IsSettled formula k
AreLeft formula from (i ∷ rest) to =
    (from ≤ i) × (i < to) × ((k : ℕ) → from ≤ k → k < i → IsSettled formula k)
    × AreLeft formula (suc i) rest to

-- no clause of fewer than two literals
abbrev pub no_singles : Cnf → ClauseListState
no_singles formula = record { vars = formula.vars; clauses = [] }

-- where nothing is true, a clause without a variable twice may be kept under an id that is new
pub record MayKeep
    (singles : ClauseListState) (watches : WatchState) (lits : Clause) (id : ℕ) : Type 0 where
  pub simple : IsSimple watches.vars lits
  pub none_true : watches.trail ≡ []
  pub quiet : watches.pending ≡ None
  pub same_vars : singles.vars ≡ watches.vars
  pub few_vars : singles.vars ≤ VARIABLE_LIMIT
  pub few : length singles.clauses < ID_LIMIT
  pub new : clause_at singles.clauses id ≡ None

-- it is attached where it has two literals, else it is among the single ones
pub record Keeps
    (old_singles singles : ClauseListState) (old_watches watches : WatchState) (lits : Clause)
    (id : ℕ) : Type 0 where
  pub short : length lits < 2 → (watches ≡ old_watches)
      × (singles ≡ record old_singles { clauses = put old_singles.clauses id lits })
  pub long : 2 ≤ length lits → (singles ≡ old_singles)
      × ((c : ClauseRef) × Attaches old_watches watches lits id c)

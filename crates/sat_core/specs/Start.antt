-- How a clause stands at level 0, and what it is to attach one there.
use Rattle.std.specs.Prelude.{◌≡◌, ◌≢◌, ◌⊎◌, ℕ, [], ◌∷◌, ◌++◌, None, IsPermutation}
use Rattle.sat_clause.specs.declared.literal.Lit.{Lit}
use Rattle.sat_clause.specs.Literal.{Clause, IsWithin}
use Rattle.sat_arena.specs.declared.clause_ref.ClauseRef.{ClauseRef}
use Rattle.sat_watch.specs.Trail.{IsOpen, value_in}
use Rattle.sat_watch.specs.Watched.{AreFalse, IsReason}
use Rattle.sat_watch.specs.Watches.{HasOneOpen, HasOneTrue, HasTwoFree, WatchState, words_in}
use Rattle.sat_core.specs.SearchStore.{IsLeveled}
use Rattle.sat_core.specs.declared.start.Standing.{Standing}
use Rattle.sat_core.specs.declared.start.Standing.TheVariants.{False, Free, Unit}

-- the literal is open, and the others are false
pub record IsUnit (watches : WatchState) (lits : Clause) (l : Lit) : Type 0 where
  pub within : IsWithin watches.vars l
  pub is_open : IsOpen watches.trail l
  pub others : IsReason watches.trail lits l
  pub one_open : HasOneOpen watches.trail watches.level lits

-- how the clause stands at level 0: false, a unit, or with a true literal or two that are not false
abbrev pub IsStanding : WatchState → Clause → Standing → Type 0
IsStanding watches lits False = AreFalse watches.trail lits
IsStanding watches lits (Unit l) = IsUnit watches lits l
IsStanding watches lits Free = HasTwoFree watches.trail lits ⊎ HasOneTrue watches.trail lits

-- the clause is attached behind the others, what has a value keeps one, and nothing is decided or
-- pending
pub record IsTaken (old new : WatchState) (lits : Clause) (id : ℕ) : Type 0 where
  pub place : ClauseRef
  pub behind : place.word ≡ words_in old.clauses
  pub order : Clause
  pub same : IsPermutation lits order
  pub clauses : new.clauses ≡
      old.clauses ++ record { place = place; id = id; lits = order } ∷ []
  pub vars : new.vars ≡ old.vars
  pub level : new.level ≡ 0
  pub leveled : IsLeveled new
  pub pending : new.pending ≡ None
  pub values : (l : Lit) → value_in old.trail l ≢ None → value_in new.trail l ≢ None

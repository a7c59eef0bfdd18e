-- What the tests know of watches.
use Rattle.std.specs.Prelude.{◌≡◌, ℕ, pos, true, [], ◌∷◌, None, Some}
use Rattle.sat_clause.specs.declared.literal.Lit.{Lit}
use Rattle.sat_clause.specs.Literal.{IsWithin, lit}
use Rattle.sat_arena.specs.declared.clause_ref.ClauseRef.{ClauseRef}
use Rattle.sat_watch.specs.Trail.{IsOpen}
use Rattle.sat_watch.specs.Watched.{IsReason}
use Rattle.sat_watch.specs.Watches.{WatchState, is_attached, lits_at}

-- no literal is true, and no clause is pending
pub record IsAtStart (n : ℕ) (s : WatchState) : Type 0 where
  pub vars : s.vars ≡ n
  pub trail : s.trail ≡ []
  pub queued : s.queued ≡ 0
  pub level : s.level ≡ 0
  pub pending : s.pending ≡ None

-- nothing is queued, and no clause is pending
pub record IsIdle (n : ℕ) (s : WatchState) : Type 0 where
  pub vars : s.vars ≡ n
  pub queued : s.queued ≡ 0
  pub pending : s.pending ≡ None

-- of two variables the first is decided, without a clause
abbrev pub first_decided : WatchState
first_decided = record {
  vars = 2;
  clauses = [];
  trail = record { lit = lit (pos 1); level = 1; reason = None } ∷ [];
  queued = 1;
  level = 1;
  pending = None;
}

-- this clause is pending, to make the literal true
pub record IsPendingFor (l : Lit) (c : ClauseRef) (s : WatchState) : Type 0 where
  pub within : IsWithin s.vars l
  pub open_yet : IsOpen s.trail l
  pub attached : is_attached s.clauses c ≡ true
  pub reason : IsReason s.trail (lits_at s.clauses c) l
  pub pending : s.pending ≡ Some c

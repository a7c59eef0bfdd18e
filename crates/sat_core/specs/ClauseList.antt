-- Clauses with their ids: what contracts see, and how they lie in two vectors.
use Rattle.std.specs.Prelude.{◌≡◌, ℕ, List, length, reverse, slice_get, Some}
use Rattle.std.specs.List.{zip}
use Rattle.sat_clause.specs.Formula.{Cnf}
use Rattle.sat_clause.specs.Literal.{Clause}
use Rattle.sat_clause.specs.Live.{Live, clause_at}

-- the number of variables, and the clauses with their ids, the newest first
pub record ClauseListState : Type 0 where
  pub vars : ℕ
  pub clauses : Live

-- the ids beside the clauses, the newest first
abbrev pub with_ids : List ℕ → List Clause → Live
with_ids ids clauses = reverse (zip ids clauses)

-- there is an id for each clause, by which it is found
pub record IsClauseList (ids : List ℕ) (cnf : Cnf) : Type 0 where
  pub many : length ids ≡ length cnf.clauses
  pub found : (k id : ℕ) (c : Clause) → slice_get ids k ≡ Some id →
      slice_get cnf.clauses k ≡ Some c → clause_at (with_ids ids cnf.clauses) id ≡ Some c

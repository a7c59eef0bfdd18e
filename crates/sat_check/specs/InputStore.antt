-- The live clauses of a formula: they are those with a mark, and their ids are 1, 2 and so on.
use Rattle.std.specs.Prelude.{◌≡◌, ℕ, zero, suc, ◌≤◌, Bool, false, if◌then◌else◌, List, length, slice_get, slice_index_or, Option, None, Some}
use Rattle.sat_clause.specs.declared.limits.TheConstants.{ID_LIMIT}
use Rattle.sat_clause.specs.Literal.{Clause}
use Rattle.sat_check.specs.Finder.{Finder}

-- the position of the mark of an id, where there is one
abbrev pub position_of : List Bool → ℕ → Option ℕ
position_of marks zero = None
position_of marks (suc i) = if slice_index_or marks i false then Some i else None

-- the clause at a position
abbrev pub clause_of : List Clause → Option ℕ → Option Clause
clause_of clauses None = None
clause_of clauses (Some at) = slice_get clauses at

-- the clauses of a formula of so many variables, and a mark for each
pub record InputState : Type 0 where
  pub vars : ℕ
  pub marks : List Bool
  pub clauses : List Clause

-- the clause with an id, if its mark is there
abbrev pub input_at : InputState → Finder
input_at state id = clause_of state.clauses (position_of state.marks id)

-- each clause has a place for a mark, and their number has 32 bits
pub record IsInputStore (marks : List Bool) (clauses : List Clause) : Type 0 where
  pub one_each : length marks ≡ length clauses
  pub few : length marks ≤ ID_LIMIT

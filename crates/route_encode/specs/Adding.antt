-- What it is to add clauses to a formula that has the room.
use Rattle.std.specs.Prelude.{◌≡◌, ℕ, ◌+◌, ◌*◌, ◌≤◌, ◌++◌, List, length, sum_by}
use Rattle.sat_clause.specs.FormulaStore.{FormulaState}
use Rattle.sat_clause.specs.Literal.{Clause}
use Rattle.route_encode.specs.declared.variables.Variables.{Variables}

-- how many literals the clauses have together
abbrev pub lit_count : List Clause → ℕ
lit_count clauses = sum_by length clauses

-- the formula has these variables, and maybe others behind them
abbrev pub HasVariables : Variables → FormulaState → Type 0
HasVariables variables state = variables.slots * variables.width ≤ state.cnf.vars

-- there is room for the clauses
pub record HasRoom (state : FormulaState) (clauses : List Clause) : Type 0 where
  pub clause_room : length clauses ≤ state.clause_room
  pub lit_room : lit_count clauses ≤ state.lit_room

-- the clauses were added at the end, and their room is used up
pub record Adds (before : FormulaState) (added : List Clause) (after : FormulaState) : Type 0 where
  pub vars : after.cnf.vars ≡ before.cnf.vars
  pub clauses : after.cnf.clauses ≡ before.cnf.clauses ++ added
  pub clause_room : after.clause_room + length added ≡ before.clause_room
  pub lit_room : after.lit_room + lit_count added ≡ before.lit_room

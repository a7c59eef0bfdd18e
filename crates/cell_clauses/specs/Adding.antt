-- What it is to add clauses to a formula, whatever room it has.
use Rattle.std.specs.Prelude.{◌≡◌, ◌++◌, List}
use Rattle.sat_clause.specs.FormulaStore.{FormulaState}
use Rattle.sat_clause.specs.Literal.{Clause}

-- the clauses were added at the end
pub record Extends (before : FormulaState) (added : List Clause) (after : FormulaState)
    : Type 0 where
  pub vars : after.cnf.vars ≡ before.cnf.vars
  pub clauses : after.cnf.clauses ≡ before.cnf.clauses ++ added

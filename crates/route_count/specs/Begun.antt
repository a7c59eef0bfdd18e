-- Formulas whose first clauses are those of another.
use Rattle.std.specs.Prelude.{◌≡◌, ◌≤◌, List, ◌++◌}
use Rattle.sat_clause.specs.Formula.{Cnf}
use Rattle.sat_clause.specs.Literal.{Clause}

-- the formula has the variables of the other one, and maybe more, and its clauses before all others
pub record IsBegunBy (formula front : Cnf) : Type 0 where
  pub vars : front.vars ≤ formula.vars
  pub clauses : (more : List Clause) × (formula.clauses ≡ front.clauses ++ more)

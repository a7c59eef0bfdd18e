-- each clause so far is met
use Rattle.std.proofs.Common.{◌≡◌, ◌+◌, List, drop}
use Rattle.sat_clause.specs.declared.literal.Lit.{Lit}
use Rattle.model_text.specs.Assignments.{Gives}
use Rattle.model_text.specs.Models.{first_unmet, first_unmet_from}
use Rattle.model_text.proofs.assignment.Assignment.first_unmet.Given as goal

abbrev pub invariant-loop-i : goal.invariant-loop-i
invariant-loop-i l = (literals : List Lit) → Gives l.formula.cnf.vars literals l.self
    → first_unmet_from (l.i + 1) literals (drop l.i l.formula.cnf.clauses)
    ≡ first_unmet literals l.formula.cnf.clauses

use Rattle.std.proofs.Common.{ℕ, ◌<◌, slice_index_or}
use Rattle.sat_clause.specs.Literal.{Clause}
use Rattle.sat_clause.specs.Formula.{IsTrueClause}
use Rattle.sat_clause.proofs.truth.holds.Given as goal

-- each clause so far is true
abbrev pub invariant-loop-i : goal.invariant-loop-i
invariant-loop-i l =
    (k : ℕ) (d : Clause) → k < l.i
    → IsTrueClause l.values (slice_index_or l.formula.cnf.clauses k d)

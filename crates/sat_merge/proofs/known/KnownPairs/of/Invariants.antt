use Rattle.std.proofs.Common.{◌≡◌, ◌<◌, ℕ, Some, slice_get}
use Rattle.sat_clause.specs.Literal.{Clause}
use Rattle.sat_merge.specs.Known.{IsNoted}
use Rattle.sat_merge.proofs.known.KnownPairs.of.Given as goal

-- the clauses so far are noted
abbrev pub invariant-loop-at : goal.invariant-loop-at
invariant-loop-at l = (i : ℕ) (clause : Clause) → i < l.at →
    slice_get l.formula.cnf.clauses i ≡ Some clause → IsNoted l.known clause

use Rattle.std.proofs.Common.{◌≡◌, ℕ, ◌<◌, false, slice_index_or}
use Rattle.sat_clause.specs.declared.literal.Lit.{Lit}
use Rattle.sat_clause.specs.Formula.{makes_true}
use Rattle.sat_clause.proofs.truth.is_true_clause.Given as goal

-- no literal so far is true
abbrev pub invariant-loop-l : goal.invariant-loop-l
invariant-loop-l l =
    (k : ℕ) (d : Lit) → k < l.l-index → makes_true l.values (slice_index_or l.clause k d) ≡ false

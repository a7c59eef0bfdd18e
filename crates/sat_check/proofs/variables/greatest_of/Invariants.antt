use Rattle.std.proofs.Common.{ℕ, ◌<◌, ◌≤◌, slice_index_or}
use Rattle.sat_clause.specs.declared.literal.Lit.{Lit}
use Rattle.sat_clause.specs.Literal.{IsWithin}
use Rattle.sat_clause.specs.declared.limits.TheConstants.{LITERAL_LIMIT}
use Rattle.sat_check.proofs.variables.greatest_of.Given as goal

-- the literals so far are of the variables up to the greatest so far
abbrev pub invariant-loop-l : goal.invariant-loop-l
invariant-loop-l l = record {
  no_less : l.number ≤ l.greatest;
  small : l.greatest ≤ LITERAL_LIMIT;
  within : (k : ℕ) (d : Lit) → k < l.l-index → IsWithin l.greatest (slice_index_or l.lits k d);
}

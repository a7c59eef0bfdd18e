use Rattle.std.proofs.Common.{◌≡◌, ◌<◌, ◌≤◌, ℕ, reverse, Some, slice_get}
use Rattle.sat_clause.specs.Literal.{Clause}
use Rattle.sat_core.proofs.deleting.last_id.Given as goal

-- none of the clauses so far has a higher id
abbrev pub invariant-loop-i : goal.invariant-loop-i
invariant-loop-i l = record {
  least : l.least ≤ l.last;
  last : (k id : ℕ) (x : Clause) → k < l.i →
      slice_get (reverse l.clauses.clauses) k ≡ Some (id, x) → id ≤ l.last;
}

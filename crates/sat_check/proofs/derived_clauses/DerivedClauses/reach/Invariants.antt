use Rattle.std.proofs.Common.{◌≡◌, ◌+◌, ◌-◌, ℕ, length}
use Rattle.sat_check.specs.DerivedStore.{derived_at}
use Rattle.sat_check.proofs.derived_clauses.DerivedClauses.reach.Given as goal

-- cells have come, and each id has the clause that it had
abbrev pub invariant-loop-self : goal.invariant-loop-self
invariant-loop-self l = record {
  first : l.self.first ≡ l.initial.self.first;
  kept : (q : ℕ) → derived_at l.self q ≡ derived_at l.initial.self q;
}

abbrev pub decreases-loop-self : goal.decreases-loop-self
decreases-loop-self l = l.last + 1 - length l.self.table

-- none of the clauses so far is it
use Rattle.std.proofs.Common.{ℕ, ◌≤◌}
use Rattle.route_count.specs.Said.{IsInput}
use Rattle.route_count.proofs.clauses.clause_id.Given as goal

abbrev pub invariant-loop-place : goal.invariant-loop-place
invariant-loop-place l = (id : ℕ) → 1 ≤ id → id ≤ l.place
    → IsInput l.formula.cnf id l.clause → ⊥

use Rattle.std.proofs.Common.{◌≤◌, ◌≡◌, ℕ, ◌<◌, true}
use Rattle.run_clauses.specs.Suited.{is_suited}
use Rattle.run_clauses.proofs.suited.unsuited.Given as goal

-- the method suits the problem at the widths that were looked at
abbrev pub invariant-loop-width : goal.invariant-loop-width
invariant-loop-width l =
    (k : ℕ) → l.first ≤ k → k < l.width → is_suited l.method k l.problem ≡ true

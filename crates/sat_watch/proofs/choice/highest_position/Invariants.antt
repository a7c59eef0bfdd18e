use Rattle.std.proofs.Common.{◌≢◌, ◌-◌, ◌<◌, ◌≤◌, length, ℕ}
use Rattle.sat_watch.specs.Choice.{level_at}
use Rattle.sat_watch.proofs.choice.highest_position.Given as goal

-- no literal so far has a higher level
abbrev pub invariant-loop-k : goal.invariant-loop-k
invariant-loop-k l = record {
  within : l.best < length l.lits;
  other : l.best ≢ l.but;
  most : (p : ℕ) → p < l.k →
      level_at l.trail.entries l.lits p ≤ level_at l.trail.entries l.lits l.best;
}

abbrev pub decreases-loop-k : goal.decreases-loop-k
decreases-loop-k l = l.n - l.k

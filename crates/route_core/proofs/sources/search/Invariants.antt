-- the ids before the part that is left are lower, and those behind it are higher
use Rattle.std.proofs.Common.{◌-◌, ◌≤◌, ◌<◌, ℕ, length, get_or}
use Rattle.route_core.specs.declared.sources.AddedStep.{AddedStep}
use Rattle.route_core.proofs.sources.search.Given as goal

abbrev pub invariant-loop-low : goal.invariant-loop-low
invariant-loop-low l = record {
  order : l.low ≤ l.high;
  within : l.high ≤ length l.added;
  lower : (k : ℕ) (d : AddedStep) → k < l.low → (get_or l.added k d).id < l.id;
  higher : (k : ℕ) (d : AddedStep) → l.high ≤ k → k < length l.added
      → l.id < (get_or l.added k d).id;
}

abbrev pub decreases-loop-low : goal.decreases-loop-low
decreases-loop-low l = l.high - l.low

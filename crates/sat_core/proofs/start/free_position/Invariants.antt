use Rattle.std.proofs.Common.{◌≡◌, ◌<◌, ◌≤◌, true, ℕ}
use Rattle.sat_watch.specs.Chains.{lit_at}
use Rattle.sat_watch.specs.Watched.{is_false}
use Rattle.sat_core.proofs.start.free_position.Given as goal

-- the literals so far are false
abbrev pub invariant-loop-k : goal.invariant-loop-k
invariant-loop-k l =
    (p : ℕ) → l.from ≤ p → p < l.k → is_false l.watches.trail (lit_at l.lits p) ≡ true

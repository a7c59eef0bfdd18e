use Rattle.std.proofs.Common.{◌≡◌}
use Rattle.sat_merge.proofs.expanding.expand.Given as goal

-- the set is one of the same variables
abbrev pub invariant-loop-hint : goal.invariant-loop-hint
invariant-loop-hint l = l.falses.size ≡ l.fn.falses.size

use Rattle.std.proofs.Common.{◌≡◌}
use Rattle.sat_merge.proofs.expanding.expand_hint.Given as goal

-- the set is one of the same variables
abbrev pub invariant-loop-l : goal.invariant-loop-l
invariant-loop-l l = l.falses.size ≡ l.fn.falses.size

use Rattle.std.proofs.Common.{◌≡◌}
use Rattle.sat_merge.proofs.expanding.go_up.Given as goal

-- the set is one of the same variables
abbrev pub invariant-loop : goal.invariant-loop
invariant-loop l = l.falses.size ≡ l.fn.falses.size

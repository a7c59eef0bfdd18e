use Rattle.std.proofs.Common.{◌≡◌, length}
use Rattle.sat_merge.proofs.representatives.Representatives.alone.Given as goal

-- one for each variable so far
abbrev pub invariant-loop-variable : goal.invariant-loop-variable
invariant-loop-variable l = length l.implied.items ≡ l.variable

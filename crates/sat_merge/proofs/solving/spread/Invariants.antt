use Rattle.std.proofs.Common.{◌≡◌, length}
use Rattle.sat_merge.proofs.solving.spread.Given as goal

-- a value for each variable so far
abbrev pub invariant-loop-at : goal.invariant-loop-at
invariant-loop-at l = length l.all.items ≡ l.at

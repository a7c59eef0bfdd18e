use Rattle.std.proofs.Common.{◌<◌, length}
use Rattle.sat_core.proofs.choosing.least_active.Given as goal

-- it is the index of a candidate
abbrev pub invariant-loop-k : goal.invariant-loop-k
invariant-loop-k l = l.least < length l.candidates

use Rattle.sat_core.proofs.DistinctLaws.{IsRising}
use Rattle.sat_core.proofs.distinct.is_rising.Given as goal

-- the literals so far rise
abbrev pub invariant-loop-l : goal.invariant-loop-l
invariant-loop-l l = IsRising l.lits l.l-index l.last

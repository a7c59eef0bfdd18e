use Rattle.sat_core.proofs.DistinctLaws.{HasSeen}
use Rattle.sat_core.proofs.distinct.take_sorted.Given as goal

-- the literals so far are seen
abbrev pub invariant-loop-l : goal.invariant-loop-l
invariant-loop-l l = HasSeen l.sorted l.distinct.items l.l-index

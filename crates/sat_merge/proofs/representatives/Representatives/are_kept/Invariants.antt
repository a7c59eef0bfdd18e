use Rattle.std.proofs.Common.{take}
use Rattle.sat_merge.specs.Representatives.{keeps}
use Rattle.sat_merge.specs.Rewritten.{AreKept}
use Rattle.sat_merge.proofs.representatives.Representatives.are_kept.Given as goal

-- the literals so far are kept
abbrev pub invariant-loop-l : goal.invariant-loop-l
invariant-loop-l l = AreKept (keeps l.self) (take l.l-index l.clause)

use Rattle.std.proofs.Common.{take}
use Rattle.sat_merge.specs.Needed.{AreMet}
use Rattle.sat_merge.proofs.needed.are_met.Given as goal

-- the literals so far are met
abbrev pub invariant-loop-l : goal.invariant-loop-l
invariant-loop-l l = AreMet l.met.set (take l.l-index l.clause)

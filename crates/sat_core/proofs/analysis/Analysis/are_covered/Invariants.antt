use Rattle.std.proofs.Common.{take}
use Rattle.sat_core.specs.Implied.{IsCovered}
use Rattle.sat_core.proofs.analysis.Analysis.are_covered.Given as goal

-- the literals so far are covered
abbrev pub invariant-loop-l : goal.invariant-loop-l
invariant-loop-l l =
    IsCovered l.self.watches.now.trail l.self.marks.now l.implied.marks.used (take l.l-index l.lits)

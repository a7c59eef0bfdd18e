use Rattle.std.proofs.Common.{take}
use Rattle.sat_core.specs.Analysis.{IsFalsePlace, IsLeast}
use Rattle.sat_core.specs.Marks.{Meets}
use Rattle.sat_core.proofs.analysis.meet_clause.Given as goal

-- the places of the literals so far were met
abbrev pub invariant-loop-l : goal.invariant-loop-l
invariant-loop-l l = record {
  meets : Meets (IsFalsePlace l.watches.trail (take l.l-index l.lits)) l.initial.marks l.marks;
  least : IsLeast l.watches.trail l.watches.level (IsFalsePlace l.watches.trail
      (take l.l-index l.lits)) l.fn.least l.lowest;
}

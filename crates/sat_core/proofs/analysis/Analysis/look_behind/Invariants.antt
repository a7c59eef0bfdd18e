use Rattle.sat_core.specs.Implied.{IsWalking, steps_left}
use Rattle.sat_core.proofs.analysis.Analysis.look_behind.Given as goal

abbrev pub invariant-loop-visit : goal.invariant-loop-visit
invariant-loop-visit l = IsWalking l.self.watches.now l.self.marks.now l.implied

-- each step ends a visit or makes one of a new place
abbrev pub decreases-loop-visit : goal.decreases-loop-visit
decreases-loop-visit l = steps_left l.implied

use Rattle.std.proofs.Common.{◌≡◌}
use Rattle.sat_merge.specs.Representatives.{keeps}
use Rattle.sat_merge.specs.Placing.{AreTaken}
use Rattle.sat_merge.specs.Rewritten.{IsMerged}
use Rattle.sat_merge.proofs.lemmas.take_all.Given as goal

-- what was taken is still
abbrev pub invariant-loop-input : goal.invariant-loop-input
invariant-loop-input l = record {
  live : l.live.vars ≡ l.fn.live.vars;
  vars : l.writer.vars ≡ l.fn.writer.vars;
  taken : l.formula.cnf.vars ≡ l.fn.live.vars →
      IsMerged (keeps l.representatives) l.formula.cnf l.merged.cnf →
      AreTaken (keeps l.representatives) l.formula.cnf l.merged.cnf l.fn.places l.fn.known l.fn.live
      l.fn.log.steps →
      AreTaken (keeps l.representatives) l.formula.cnf l.merged.cnf l.places l.known l.live
      l.log.steps;
}

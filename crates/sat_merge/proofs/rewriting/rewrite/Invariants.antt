use Rattle.std.proofs.Common.{◌≡◌, take}
use Rattle.sat_merge.specs.Representatives.{keeps}
use Rattle.sat_merge.specs.Rewriting.{IsRewriting}
use Rattle.sat_merge.proofs.rewriting.rewrite.Given as goal

-- the steps so far are rewritten, for as many variables
abbrev pub invariant-loop-at : goal.invariant-loop-at
invariant-loop-at l = record {
  live : l.live.vars ≡ l.formula.cnf.vars;
  writer : l.writer.vars ≡ l.formula.cnf.vars;
  rewriting : IsRewriting (keeps l.representatives) l.formula.cnf (take l.at l.steps.steps) l.live
      l.log.steps;
}

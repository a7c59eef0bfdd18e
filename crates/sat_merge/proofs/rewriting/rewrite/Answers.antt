use Rattle.std.proofs.Common.{◌∙◌, ap, add-one, sym, take}
use Rattle.list_laws.proofs.Places.{take-get}
use Rattle.sat_check.specs.Verdict.{step_of}
use Rattle.sat_merge.specs.Hints.{HintState}
use Rattle.sat_merge.specs.Representatives.{keeps}
use Rattle.sat_merge.proofs.RewrittenLaws.{rewritten_none}
use Rattle.sat_merge.proofs.rewriting.rewrite.Goals as goal

pub loop-at-init : goal.loop-at-init
loop-at-init c = record {
  live = c.in_ok-live.ensures.vars;
  writer = ap (λ (w : HintState). w.vars) c.in_ok-writer.ensures ∙ c.vars.ensures.value;
  rewriting = rw c.requires.fresh (record {
    rewritten = rewritten_none (keeps c.args.representatives.now) c.args.formula.now.cnf;
    found = c.in_ok-live.ensures.live;
  });
}

pub loop-at-preserved : goal.loop-at-preserved
loop-at-preserved c = record {
  live = c.in_ok-take.ensures.live ∙ c.loop-at.invariant.live;
  writer = c.in_ok-take.ensures.vars ∙ c.loop-at.invariant.writer;
  rewriting = rw (
    add-one,
    take-get c.args.steps.now.steps c.loop-at.at (step_of c.step.result)
        c.step.ensures.value,
  )
      (c.in_ok-take.ensures.taken c.if-not-branch.false c.args.formula.now.cnf
      (take c.loop-at.at c.args.steps.now.steps) (sym c.len.ensures)
      c.loop-at.invariant.rewriting);
}

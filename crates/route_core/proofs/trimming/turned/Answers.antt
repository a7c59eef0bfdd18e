use Rattle.std.proofs.Common.{◌∙◌}
use Rattle.sat_clause.specs.Step.{Added, Erased}
use Rattle.route_core.proofs.KeepLemmas.{turned-more}
use Rattle.route_core.proofs.trimming.turned.Goals as goal

pub loop-at-preserved-then-step : goal.loop-at-preserved-then-step
loop-at-preserved-then-step c =
    let is = rw c.if-step.true at c.step-step.ensures.value in
    c.erase.ensures.steps
    ∙ turned-more c.args.back.now.steps c.loop-at.at c.loop-at-test.true _
    (Erased c.step-step.result.id c.step-step.result.hints.now) is
    (c.in_ok-reserve.ensures.kept ∙ c.loop-at.invariant)

pub loop-at-preserved : goal.loop-at-preserved
loop-at-preserved c =
    let is = rw c.if-step.false at c.step-step.ensures.value in
    c.add.ensures.steps
    ∙ turned-more c.args.back.now.steps c.loop-at.at c.loop-at-test.true _
    (Added c.step-step.result.id c.step-step.result.lits.now c.step-step.result.hints.now) is
    (c.in_ok-reserve.ensures.kept ∙ c.loop-at.invariant)

use Rattle.std.proofs.Common.{◌<◌, suc, Bool, length, ap, ◌∙◌, arith}
use Rattle.std.specs.Prelude.{◌||◌, pos}
use Rattle.std.specs.List.{list_any}
use Rattle.std.specs.Ordering.{int_eq}
use Rattle.route_core.proofs.BlameLemmas.{hint-added, hint-erased}
use Rattle.route_core.proofs.blaming.mark_used.Goals as goal

pub loop-at-preserved-then-step : goal.loop-at-preserved-then-step
loop-at-preserved-then-step c = λ k low.
    let is = rw c.if-step.true at c.step-step.ensures.value in
    c.loop-at.invariant k low
    ∙ hint-erased c.args.log.now.steps c.loop-at.at c.step-step.result.id
    c.step-step.result.hints.now is k

pub loop-at-preserved : goal.loop-at-preserved
loop-at-preserved c = λ k low.
    let is = rw c.if-step.false at c.step-step.ensures.value in
    let there : k < length c.loop-at.used = omega (arith, low, c.loop-at.auto.used) in
    c.mark_hints.ensures k there
    ∙ ap (λ (b : Bool). b || list_any (λ h. int_eq h (pos (suc k))) c.step-step.result.hints.now)
    (c.loop-at.invariant k low)
    ∙ hint-added c.args.log.now.steps c.loop-at.at c.step-step.result.id
    c.step-step.result.lits.now c.step-step.result.hints.now is k

use Rattle.std.proofs.Common.{[], ◌∷◌, ◌++◌, List, sym, ap, ◌∙◌}
use Rattle.route_core.specs.declared.sources.AddedStep.{AddedStep}
use Rattle.route_core.proofs.ListedLemmas.{listed-added, listed-erased}
use Rattle.route_core.proofs.sources.added_steps.Goals as goal

pub loop-place-preserved-then-step : goal.loop-place-preserved-then-step
loop-place-preserved-then-step c =
    let is = rw c.if-step.true at c.step-step.ensures.value in
    c.loop-place.invariant
    ∙ sym (listed-erased c.args.log.now.steps c.loop-place.place c.step-step.result.id
    c.step-step.result.hints.now is)

pub loop-place-preserved : goal.loop-place-preserved
loop-place-preserved c =
    let is = rw c.if-step.false at c.step-step.ensures.value in
    let last : AddedStep = record { id = c.step-step.result.id; place = c.loop-place.place } in
    c.in_ok-push.ensures.items
    ∙ ap (λ (xs : List AddedStep). xs ++ last ∷ []) c.loop-place.invariant
    ∙ sym (listed-added c.args.log.now.steps c.loop-place.place c.step-step.result.id
    c.step-step.result.lits.now c.step-step.result.hints.now is)

use Rattle.std.proofs.Common.{◌∙◌, List, add-one, arith, refl, subst, take}
use Rattle.std.proofs.lemmas.List.{take_all}
use Rattle.sat_clause.specs.Step.{Step}
use Rattle.sat_merge.specs.Moving.{IsMoving}
use Rattle.list_laws.proofs.Places.{take-get}
use Rattle.sat_check.specs.Verdict.{step_of}
use Rattle.sat_merge.specs.Representatives.{keeps}
use Rattle.sat_merge.proofs.MovingLaws.{moving_none}
use Rattle.sat_merge.proofs.moving.move_steps.Goals as goal

pub loop-at-init : goal.loop-at-init
loop-at-init c = record {
  live = refl;
  vars = refl;
  moving = λ formula found.
      moving_none (keeps c.args.representatives.now) formula c.args.places.now c.args.live.now
      c.args.log.now.steps found;
}

pub loop-at-preserved : goal.loop-at-preserved
loop-at-preserved c =
    let next = take-get c.args.steps.now.steps c.loop-at.at (step_of c.step.result)
    c.step.ensures.value in
    record {
      live = c.in_ok-take.ensures.live ∙ c.loop-at.invariant.live;
      vars = c.in_ok-take.ensures.vars ∙ c.loop-at.invariant.vars;
      moving = λ formula found.
          rw (add-one, next)
          (c.in_ok-take.ensures.moved c.if-not-branch.false formula c.args.log.now.steps
          (take c.loop-at.at c.args.steps.now.steps) (c.loop-at.invariant.moving formula found));
    }

pub returns : goal.returns
returns c = λ is formula found.
    subst
    (λ (steps : List Step). IsMoving (keeps c.args.representatives.now) formula c.args.places.now
    c.args.log.now.steps steps c.loop-at.live c.loop-at.log.steps)
    (take_all c.loop-at.at c.args.steps.now.steps
    (omega (arith, c.loop-at-test.false, c.len-at-end.ensures)))
    (c.loop-at.invariant.moving formula found)

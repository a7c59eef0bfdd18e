use Rattle.std.proofs.Common.{add-one, arith, take}
use Rattle.list_laws.proofs.Places.{take-get}
use Rattle.sat_check.specs.Verdict.{step_of}
use Rattle.sat_merge.proofs.MovedLaws.{added_none, added_one}
use Rattle.route_ways.proofs.added.added.Goals as goal
use Rattle.route_ways.proofs.added.added.Goals.{then-not-step, else-not-step}

pub loop-at-preserved : goal.loop-at-preserved
loop-at-preserved c =
    let before = take c.loop-at.at c.args.log.now.steps in
    let next = take-get c.args.log.now.steps c.loop-at.at (step_of c.step.result)
    c.step.ensures.value in
    elim c.if-not-step.branch [
      | then-not-step w ↦
          let count = added_one before c.step.result w.if-not-step.true in
          record {
            many = rw (add-one, next)
                (omega (arith, w.added-is, c.loop-at.invariant.many, count));
            few = omega (arith, w.added-is, c.loop-at.invariant.few);
          }
      | else-not-step w ↦
          let count = added_none before c.step.result w.if-not-step.false in
          record {
            many = rw (add-one, next)
                (omega (arith, w.added-is, c.loop-at.invariant.many, count));
            few = omega (arith, w.added-is, c.loop-at.invariant.few);
          }
    ]

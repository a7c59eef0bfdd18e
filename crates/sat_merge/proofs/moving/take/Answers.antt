use Rattle.std.proofs.lemmas.Result.{IfOk-weaker}
use Rattle.sat_merge.specs.Representatives.{keeps}
use Rattle.sat_merge.proofs.moving.take.Goals as goal

pub returns-then-step-clause-moved : goal.returns-then-step-clause-moved
returns-then-step-clause-moved c =
    IfOk-weaker c.erase.result _ _ (λ ok says is formula lemmas steps moving.
    rw c.if-step.true (says is (keeps c.args.representatives.now) formula lemmas steps moving))
    c.erase.ensures.moved

pub returns-clause-moved : goal.returns-clause-moved
returns-clause-moved c =
    IfOk-weaker c.add.result _ _ (λ ok says is formula lemmas steps moving.
    rw c.if-step.false (says is formula lemmas steps moving)) c.add.ensures.moved

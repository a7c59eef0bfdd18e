use Rattle.std.proofs.lemmas.Result.{IfOk-weaker}
use Rattle.sat_merge.specs.Representatives.{keeps}
use Rattle.sat_merge.proofs.rewriting.take.Goals as goal

pub returns-then-step-clause-taken : goal.returns-then-step-clause-taken
returns-then-step-clause-taken c =
    IfOk-weaker c.erase.result _ _ (λ ok says is formula steps many rewriting.
    rw c.if-step.true (says is formula steps (keeps c.args.representatives.now) many rewriting))
    c.erase.ensures.erased

pub returns-clause-taken : goal.returns-clause-taken
returns-clause-taken c =
    IfOk-weaker c.add.result _ _ (λ ok says is formula steps many rewriting.
    rw c.if-step.false (says is formula steps rewriting)) c.add.ensures.added

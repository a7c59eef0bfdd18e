use Rattle.std.proofs.Common.{◌≡◌, None}
use Rattle.std.proofs.lemmas.Result.{IfOk-weaker, on_err_weaker}
use Rattle.sat_clause.specs.Judge.{after}
use Rattle.sat_clause.specs.Live.{Live}
use Rattle.sat_check.specs.Verdict.{step_of}
use Rattle.sat_rat.specs.CountedStore.{Tracks}
use Rattle.sat_rat.specs.FullJudge.{full_fault}
use Rattle.sat_rat.proofs.full_rule.FullRuleStepRule.take_step.Goals as goal

pub returns-clause-fault : goal.returns-clause-fault
returns-clause-fault c =
    IfOk-weaker c.take_within.result
    (λ r. (live : Live) → Tracks c.self-2.inside.live live
    → r ≡ full_fault live (step_of c.args.step))
    (λ r. (live : Live) → Tracks c.args.self.now live → r ≡ full_fault live (step_of c.args.step))
    (λ r is live tracks. is live
    (rw (← c.self-2.view_is) at (c.widen.ensures.tracks live tracks)))
    c.take_within.ensures.fault

pub returns-clause-live : goal.returns-clause-live
returns-clause-live c =
    IfOk-weaker c.take_within.result
    (λ r. r ≡ None → (live : Live) → Tracks c.self-2.inside.live live
    → Tracks c.take_within.new.live (after live (step_of c.args.step)))
    (λ r. r ≡ None → (live : Live) → Tracks c.args.self.now live
    → Tracks c.take_within.new.live (after live (step_of c.args.step)))
    (λ r leads good live tracks. leads good live
    (rw (← c.self-2.view_is) at (c.widen.ensures.tracks live tracks)))
    c.take_within.ensures.live

pub returns-clause-err : goal.returns-clause-err
returns-clause-err c =
    on_err_weaker c.take_within.result
    (λ kept live tracks. kept live
    (rw (← c.self-2.view_is) at (c.widen.ensures.tracks live tracks)))
    c.take_within.ensures.err

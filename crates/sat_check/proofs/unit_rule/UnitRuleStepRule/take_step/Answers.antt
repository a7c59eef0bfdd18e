use Rattle.std.proofs.Common.{◌≡◌, ◌∙◌, ap, subst, None}
use Rattle.std.specs.Prelude.{IfOk, OnErr}
use Rattle.sat_clause.specs.Judge.{after, fault}
use Rattle.sat_clause.specs.Live.{Live}
use Rattle.sat_check.specs.Finder.{Finder, Finds}
use Rattle.sat_check.specs.LiveStore.{HasLive, live_at}
use Rattle.sat_check.specs.Verdict.{step_of}
use Rattle.sat_check.proofs.unit_rule.UnitRuleStepRule.take_step.Goals as goal

pub returns-clause-fault : goal.returns-clause-fault
returns-clause-fault c =
    subst (λ (f : Finder). IfOk c.take_within.result (λ r. (live : Live) → Finds f live
    → r ≡ fault live (step_of c.args.step)))
    (c.widen-2.ensures.live ∙ ap live_at c.self.view_is) c.take_within.ensures.fault

pub returns-clause-live : goal.returns-clause-live
returns-clause-live c =
    subst (λ (f : Finder). IfOk c.take_within.result (λ r. r ≡ None → (live : Live) → Finds f live
    → HasLive c.take_within.new.live (after live (step_of c.args.step))))
    (c.widen-2.ensures.live ∙ ap live_at c.self.view_is) c.take_within.ensures.live

pub returns-clause-err : goal.returns-clause-err
returns-clause-err c =
    subst (λ (f : Finder). OnErr c.take_within.result ((live : Live) → Finds f live
    → HasLive c.take_within.new.live live))
    (c.widen-2.ensures.live ∙ ap live_at c.self.view_is) c.take_within.ensures.err

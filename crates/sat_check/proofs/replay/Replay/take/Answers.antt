use Rattle.std.proofs.Common.{◌∙◌, sym}
use Rattle.sat_check.specs.Verdict.{step_of}
use Rattle.sat_check.proofs.StepLaws.{take_accepted, take_behind, take_kept, take_next, take_refused, view_literals}
use Rattle.sat_check.proofs.replay.Replay.take.Goals as goal

pub returns-then-is_some-clause-ok : goal.returns-then-is_some-clause-ok
returns-then-is_some-clause-ok g c = λ formula steps replayed.
    take_behind g.row.R.Denot g.R.StepRule.fault g.R.StepRule.tracks formula steps
    c.args.self.now replayed
    (rw (← c.self.view_is) (sym c.is_some.ensures ∙ c.if-is_some.true)) (step_of c.args.step)
    (view_literals c.args.step c.requires)

pub returns-in_default-clause-err : goal.returns-in_default-clause-err
returns-in_default-clause-err g c = λ formula steps replayed.
    let p = c.self.inside in
    take_kept g.row.R.Denot g.R.StepRule.fault g.R.StepRule.tracks formula steps
    (record { judge = p.judge; taken = p.taken; verdict = p.verdict })
    (rw (← c.self.view_is) at replayed) (sym c.is_some.ensures ∙ c.if-is_some.false)
    c.take_step.new.self c.in_default.ensures.err

pub returns-in-Some-clause-ok : goal.returns-in-Some-clause-ok
returns-in-Some-clause-ok g c = λ formula steps replayed.
    let p = c.self.inside in
    take_refused g.row.R.Denot g.R.StepRule.fault g.R.StepRule.tracks formula steps
    (record { judge = p.judge; taken = p.taken; verdict = p.verdict })
    (rw (← c.self.view_is) at replayed) (sym c.is_some.ensures ∙ c.if-is_some.false)
    (step_of c.args.step) (view_literals c.args.step c.requires) c.take_step.new.self
    c.in-Some.cause (λ live tracks. sym c.in-Some.is ∙ c.in-Ok.ensures.fault live tracks)

pub returns-then-is_empty_clause-clause-ok : goal.returns-then-is_empty_clause-clause-ok
returns-then-is_empty_clause-clause-ok g c = λ formula steps replayed.
    let p = c.self.inside in
    take_accepted g.row.R.Denot g.R.StepRule.fault g.R.StepRule.tracks formula steps
    (record { judge = p.judge; taken = p.taken; verdict = p.verdict })
    (rw (← c.self.view_is) at replayed) (sym c.is_some.ensures ∙ c.if-is_some.false)
    (step_of c.args.step) (view_literals c.args.step c.requires) c.take_step.new.self
    (λ live tracks. sym c.in_default-fault.is ∙ c.in-Ok.ensures.fault live tracks)
    (sym c.is_empty_clause.ensures ∙ c.if-is_empty_clause.true)

pub returns-clause-ok : goal.returns-clause-ok
returns-clause-ok g c = λ formula steps replayed.
    let p = c.self.inside in
    take_next g.row.R.Denot g.R.StepRule.fault g.R.StepRule.tracks formula steps
    (record { judge = p.judge; taken = p.taken; verdict = p.verdict })
    (rw (← c.self.view_is) at replayed) (sym c.is_some.ensures ∙ c.if-is_some.false)
    (step_of c.args.step) (view_literals c.args.step c.requires) c.take_step.new.self
    (λ live tracks. sym c.in_default-fault.is ∙ c.in-Ok.ensures.fault live tracks)
    (sym c.is_empty_clause.ensures ∙ c.if-is_empty_clause.false)
    (c.in-Ok.ensures.live c.in_default-fault.is)

use Rattle.std.proofs.Common.{Option, ap, subst, sym, ◌∙◌}
use Rattle.sat_check.specs.Replaying.{HasFound}
use Rattle.sat_check.specs.Verdict.{judgement_of}
use Rattle.sat_check.specs.declared.verdict.Verdict.{Verdict}
use Rattle.sat_check.proofs.StepLaws.{said_at_end, said_before}
use Rattle.sat_check.proofs.replay.Replay.verdict.Goals as goal

pub returns-in-Some-clause-judged : goal.returns-in-Some-clause-judged
returns-in-Some-clause-judged g c = λ formula steps replayed.
    let rule = g.R.StepRule.fault in
    let p = c.self.inside in
    let now = rw (← c.self.view_is) at replayed in
    said_before rule formula steps (judgement_of c.in-Some.verdict)
    (subst (λ (v : Option Verdict). HasFound rule (g.R.StepRule.tracks p.judge) formula steps
    p.taken v) c.in-Some.is now.found)

pub returns-in-Some-clause-sound : goal.returns-in-Some-clause-sound
returns-in-Some-clause-sound g c = λ formula steps replayed accepted.
    let now = rw (← c.self.view_is) at replayed in
    c.is_sound.ensures formula steps now.literals
    (sym (returns-in-Some-clause-judged g c formula steps replayed) ∙ ap judgement_of accepted)

pub returns-clause-judged : goal.returns-clause-judged
returns-clause-judged g c = λ formula steps replayed.
    let rule = g.R.StepRule.fault in
    let p = c.self.inside in
    let now = rw (← c.self.view_is) at replayed in
    said_at_end rule (g.R.StepRule.tracks p.judge) formula steps p.taken
    (subst (λ (v : Option Verdict). HasFound rule (g.R.StepRule.tracks p.judge) formula steps
    p.taken v) c.in_default.is now.found)

use Rattle.std.proofs.Common.{inl, refl, subst, sym}
use Rattle.run_outcome.specs.declared.text_file.TextFile.TheVariants.{Problem}
use Rattle.run_outcome.specs.Posed.{EndsWithoutProblem}
use Rattle.run_outcome.proofs.PosedLaws.{unread-ends}
use Rattle.run_outcome.proofs.StopLaws.{desk-fault}
use Rattle.run_outcome.proofs.StoppedLaws.{unread-not-early}
use Rattle.router_top.proofs.problem_work.work_on.Goals as goal

pub returns-in-Err-clause-leaves : goal.returns-in-Err-clause-leaves
returns-in-Err-clause-leaves g c =
    inl ((c.in-Err.stop, c.in-Err.ensures.stop, c.unread_outcome.ensures), refl)

pub returns-in-Err-clause-quiet : goal.returns-in-Err-clause-quiet
returns-in-Err-clause-quiet g c told =
    c.in-Err.ensures.quiet (λ fails. told (desk-fault (Problem c.in-Err.stop.file)
    c.in-Err.stop.fault c.unread_outcome.result c.unread_outcome.ensures fails))

pub returns-in-Err-clause-lacks : goal.returns-in-Err-clause-lacks
returns-in-Err-clause-lacks g c none = subst EndsWithoutProblem (sym c.unread_outcome.ensures)
    (unread-ends (Problem c.in-Err.stop.file) c.in-Err.stop.fault)

pub returns-in-Err-clause-stopped : goal.returns-in-Err-clause-stopped
returns-in-Err-clause-stopped g c early =
    absurd (unread-not-early (g.W.ProblemWork.budget c.args.work.now) (Problem c.in-Err.stop.file)
    c.in-Err.stop.fault c.unread_outcome.result c.unread_outcome.ensures early)

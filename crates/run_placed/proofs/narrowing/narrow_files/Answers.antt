use Rattle.std.proofs.Common.{inr, subst, sym}
use Rattle.fpga_problem.specs.Sources.{IsStopped}
use Rattle.router_words.specs.Job.{global_said, least_said}
use Rattle.run_placed.specs.Least.{LeavesLeast}
use Rattle.run_outcome.specs.Scene.{scene}
use Rattle.run_placed.proofs.ReasonLaws.{given-back}
use Rattle.run_placed.proofs.GlobalLaws.{lacking-unstopped}
use Rattle.run_placed.proofs.narrowing.narrow_files.Goals as goal

pub returns-in-Ok-clause-leaves : goal.returns-in-Ok-clause-leaves
returns-in-Ok-clause-leaves g c =
    let has = rw c.at_width.ensures at c.in-Ok.ensures.has in
    subst (LeavesLeast (least_said c.args.job.now)
    (scene (g.D.Desk.state c.args.desk.now) (g.D.Desk.state c.read_begun.new.desk)
    (g.S.Shelf.state c.args.shelf.now) (g.S.Shelf.state c.narrow_placed-ended.new.shelf)))
    (sym c.ran_by.ensures.outcome)
    (inr (c.in-Ok.begun.placed, has, c.narrow_placed-ended.ensures.leaves))

pub returns-in-Ok-clause-reason : goal.returns-in-Ok-clause-reason
returns-in-Ok-clause-reason g c =
    let has = rw c.at_width.ensures at c.in-Ok.ensures.has in
    rw c.ran_by.ensures.outcome
    (given-back (least_said c.args.job.now) c.in-Ok.begun.placed
    (g.D.Desk.state c.args.desk.now).files (g.S.Shelf.state c.args.shelf.now).files
    (g.S.Shelf.state c.narrow_placed-ended.new.shelf).files c.narrow_placed-ended.result.outcome
    c.narrow_placed-ended.result.why c.ran_by.result.reason has c.ran_by.ensures.reason
    c.narrow_placed-ended.ensures.why)

pub returns-in-Err-clause-quiet : goal.returns-in-Err-clause-quiet
returns-in-Err-clause-quiet g c told =
    c.in-Err.ensures.quiet (λ fails. told (rw c.without_problem.ensures fails))

pub returns-in-Ok-clause-stopped : goal.returns-in-Ok-clause-stopped
returns-in-Ok-clause-stopped g c stopped =
    c.narrow_placed-ended.ensures.stopped (rw c.ran_by.ensures.outcome at stopped)

pub returns-in-Err-clause-stopped : goal.returns-in-Err-clause-stopped
returns-in-Err-clause-stopped g c stopped =
    absurd (lacking-unstopped
    (IsStopped (g.D.Desk.state c.args.desk.now) (g.D.Desk.state c.read_begun.new.desk))
    (g.D.Desk.state c.args.desk.now).files (global_said c.at_width.result) c.in-Err.stop
    c.in-Err.ensures.lacks (rw c.without_problem.ensures at stopped))

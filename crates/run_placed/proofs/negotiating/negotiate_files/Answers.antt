use Rattle.std.proofs.Common.{inl, inr, refl}
use Rattle.fpga_problem.specs.Sources.{IsStopped}
use Rattle.router_words.specs.Job.{global_said}
use Rattle.run_placed.proofs.GlobalLaws.{lacking-unstopped}
use Rattle.run_placed.proofs.negotiating.negotiate_files.Goals as goal

pub returns-in-Err-clause-leaves : goal.returns-in-Err-clause-leaves
returns-in-Err-clause-leaves g c =
    inl (c.in-Err.ensures.lacks, refl {a = g.S.Shelf.state c.args.shelf.now})

pub returns-in-Ok-clause-leaves : goal.returns-in-Ok-clause-leaves
returns-in-Ok-clause-leaves g c =
    inr (c.in-Ok.begun.placed, c.in-Ok.ensures.has, c.seek_route.ensures.leaves)

pub returns-in-Err-clause-stopped : goal.returns-in-Err-clause-stopped
returns-in-Err-clause-stopped g c stopped =
    absurd (lacking-unstopped
    (IsStopped (g.D.Desk.state c.args.desk.now) (g.D.Desk.state c.read_begun.new.desk))
    (g.D.Desk.state c.args.desk.now).files (global_said c.args.job.now) c.in-Err.stop
    c.in-Err.ensures.lacks stopped)

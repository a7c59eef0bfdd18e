use Rattle.std.proofs.Common.{◌∙◌, inl, inr, refl}
use Rattle.router_words.specs.Job.{decode_said}
use Rattle.run_outcome.specs.declared.text_file.TextFile.TheVariants.{Problem}
use Rattle.run_clauses.proofs.DecodeLaws.{leaves-before}
use Rattle.run_outcome.proofs.StopLaws.{desk-fault}
use Rattle.run_clauses.proofs.decoding.decode_files.Goals as goal

pub returns-in-Err-clause-leaves : goal.returns-in-Err-clause-leaves
returns-in-Err-clause-leaves g c =
    inl ((c.in-Err.stop, c.in-Err.ensures.stop, c.unread_outcome.ensures), refl)

pub returns-in-Err-clause-quiet : goal.returns-in-Err-clause-quiet
returns-in-Err-clause-quiet g c told =
    c.in-Err.ensures.quiet (λ fails. told (desk-fault (Problem c.in-Err.stop.file)
    c.in-Err.stop.fault c.unread_outcome.result c.unread_outcome.ensures fails))

pub returns-clause-leaves : goal.returns-clause-leaves
returns-clause-leaves g c = inr (
  c.in-Ok.problem,
  c.in-Ok.ensures.poses,
  leaves-before (g.D.Desk.state c.args.desk.now) (g.D.Desk.state c.read_files.new.desk)
      (g.D.Desk.state c.decode_problem.new.desk) (decode_said c.args.job.now) c.in-Ok.problem
      (g.S.Shelf.state c.args.shelf.now) (g.S.Shelf.state c.decode_problem.new.shelf)
      c.decode_problem.result c.in-Ok.ensures.files (c.in-Ok.ensures.quiet (λ e. e))
      c.decode_problem.ensures.leaves,
)

pub returns-clause-quiet : goal.returns-clause-quiet
returns-clause-quiet g c told =
    c.decode_problem.ensures.quiet told ∙ c.in-Ok.ensures.quiet (λ e. e)

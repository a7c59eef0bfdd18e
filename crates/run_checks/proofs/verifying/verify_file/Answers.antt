use Rattle.std.proofs.Common.{◌≡◌, ◌∙◌, false, true, inl, inr, refl, sym}
use Rattle.fpga_problem.specs.Sources.{Stops, route_source}
use Rattle.fpga_problem.proofs.SourceLemmas.{says-before, stop-before}
use Rattle.router_words.specs.Job.{verify_said}
use Rattle.run_outcome.specs.declared.text_file.TextFile.TheVariants.{Problem, Routed}
use Rattle.run_outcome.proofs.StopLaws.{desk-fault}
use Rattle.run_checks.proofs.VerifiedLaws.{judged-to, told-to, unread-lawful}
use Rattle.run_checks.proofs.verifying.verify_file.Goals as goal

pub returns-in-Err-clause-verifies : goal.returns-in-Err-clause-verifies
returns-in-Err-clause-verifies g c = inl (
  inl (c.in-Err.stop, c.in-Err.ensures.stop, c.unread_outcome.ensures),
  refl,
  λ all. unread-lawful (Problem c.in-Err.stop.file) c.in-Err.stop.fault c.unread_outcome.result
      c.unread_outcome.ensures,
)

pub returns-in-Err-clause-quiet : goal.returns-in-Err-clause-quiet
returns-in-Err-clause-quiet g c told =
    c.in-Err.ensures.quiet (λ fails. told (desk-fault (Problem c.in-Err.stop.file)
    c.in-Err.stop.fault c.unread_outcome.result c.unread_outcome.ensures fails))

pub returns-in-Err-read_route_file-clause-verifies :
    goal.returns-in-Err-read_route_file-clause-verifies
returns-in-Err-read_route_file-clause-verifies g c =
    let fault = c.in-Err-read_route_file.fault in
    inl (
      inr (
        c.in-Ok.problem,
        c.in-Ok.ensures.poses,
        Stops (record {
          fault = fault;
          because = stop-before (g.D.Desk.state c.read_files.new.desk)
              (g.D.Desk.state c.read_route_file.new.desk) (g.D.Desk.state c.args.desk.now)
              (route_source (verify_said c.args.job.now).routed) fault c.in-Ok.ensures.files
              (c.in-Ok.ensures.quiet (λ e. e))
              c.in-Err-read_route_file.ensures.reads.answers;
          tells = c.unread_outcome-in-Err-read_route_file.ensures;
        }),
      ),
      refl,
      λ all. unread-lawful Routed fault c.unread_outcome-in-Err-read_route_file.result
          c.unread_outcome-in-Err-read_route_file.ensures,
    )

pub returns-in-Err-read_route_file-clause-quiet : goal.returns-in-Err-read_route_file-clause-quiet
returns-in-Err-read_route_file-clause-quiet g c told =
    c.in-Err-read_route_file.ensures.reads.quiet (λ fails. told (desk-fault Routed
    c.in-Err-read_route_file.fault c.unread_outcome-in-Err-read_route_file.result
    c.unread_outcome-in-Err-read_route_file.ensures fails)) ∙ c.in-Ok.ensures.quiet (λ e. e)

pub returns-then-job-clause-verifies : goal.returns-then-job-clause-verifies
returns-then-job-clause-verifies g c =
    told-to _ _ (verify_said c.args.job.now) c.in-Ok.problem c.in-Ok.ensures.poses
    c.in-Ok-read_route_file.found
    (says-before c.in-Ok.ensures.files c.in-Ok-read_route_file.ensures.reads.answers) tt _ _ _
    c.if-job.true c.judge_lines.ensures

pub returns-clause-verifies : goal.returns-clause-verifies
returns-clause-verifies g c = inl (
  judged-to _ _ (verify_said c.args.job.now) c.in-Ok.problem c.in-Ok.ensures.poses
      c.in-Ok-read_route_file.found
      (says-before c.in-Ok.ensures.files c.in-Ok-read_route_file.ensures.reads.answers) tt _
      c.judge.ensures,
  refl,
  λ all. let clash : false ≡ true = sym c.if-job.false ∙ all in cc,
)

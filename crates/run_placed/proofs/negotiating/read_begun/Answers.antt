use Rattle.std.proofs.Common.{◌∙◌, inl, inr}
use Rattle.fpga_problem.specs.Sources.{route_source}
use Rattle.fpga_problem.specs.declared.text_file.TextFile.TheVariants.{Route as RouteFile}
use Rattle.fpga_problem.proofs.SourceLemmas.{stop-before}
use Rattle.run_outcome.specs.declared.text_file.TextFile.TheVariants.{Problem}
use Rattle.run_outcome.proofs.StopLaws.{desk-fault}
use Rattle.run_placed.proofs.negotiating.read_begun.Goals as goal

pub returns-in-Err-clause-lacks : goal.returns-in-Err-clause-lacks
returns-in-Err-clause-lacks g c =
    inl (c.in-Err.stop, c.in-Err.ensures.stop, c.unread_outcome.ensures)

pub returns-in-Err-clause-quiet : goal.returns-in-Err-clause-quiet
returns-in-Err-clause-quiet g c told =
    c.in-Err.ensures.quiet (λ fails. told (desk-fault (Problem c.in-Err.stop.file)
    c.in-Err.stop.fault c.unread_outcome.result c.unread_outcome.ensures fails))

pub returns-in_default-clause-has : goal.returns-in_default-clause-has
returns-in_default-clause-has g c = record {
  poses = c.in-Ok.ensures.poses;
  sound = c.in-Ok.ensures.sound;
  start = rw c.in_default.is tt;
}

pub returns-in-Err-read_route_file-clause-lacks : goal.returns-in-Err-read_route_file-clause-lacks
returns-in-Err-read_route_file-clause-lacks g c =
    let fault = c.in-Err-read_route_file.fault in
    inr (
      c.in-Ok.placed,
      c.in-Ok.ensures.poses,
      rw c.in-Some.is (record {
        fault = fault;
        because = stop-before (g.D.Desk.state c.read_placed.new.desk)
            (g.D.Desk.state c.read_route_file.new.desk) (g.D.Desk.state c.args.desk.now)
            (route_source c.in-Some.name.now) fault c.in-Ok.ensures.files
            (c.in-Ok.ensures.quiet (λ e. e)) c.in-Err-read_route_file.ensures.reads.answers;
        tells = c.unread_outcome-in-Err-read_route_file.ensures;
      }),
    )

pub returns-in-Err-read_route_file-clause-quiet : goal.returns-in-Err-read_route_file-clause-quiet
returns-in-Err-read_route_file-clause-quiet g c told =
    c.in-Err-read_route_file.ensures.reads.quiet (λ fails. told (desk-fault (Problem RouteFile)
    c.in-Err-read_route_file.fault c.unread_outcome-in-Err-read_route_file.result
    c.unread_outcome-in-Err-read_route_file.ensures fails)) ∙ c.in-Ok.ensures.quiet (λ e. e)

pub returns-in-Ok-read_route_file-clause-has : goal.returns-in-Ok-read_route_file-clause-has
returns-in-Ok-read_route_file-clause-has g c = record {
  poses = c.in-Ok.ensures.poses;
  sound = c.in-Ok.ensures.sound;
  start = rw c.in-Some.is (
    c.in-Ok-read_route_file.start,
    rw c.in-Ok.ensures.files at c.in-Ok-read_route_file.ensures.reads.answers,
  );
}

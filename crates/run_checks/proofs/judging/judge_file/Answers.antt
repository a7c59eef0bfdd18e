use Rattle.std.proofs.Common.{◌∙◌, inl, inr}
use Rattle.fpga_problem.specs.Sources.{Reads, Stops, route_source}
use Rattle.fpga_problem.specs.declared.unread.FileFault.TheVariants.{Text}
use Rattle.fpga_problem.proofs.SourceLemmas.{says-before, stop-before}
use Rattle.fpga_text.specs.declared.fault.TextFault.TheVariants.{Memory}
use Rattle.route_judge.proofs.OwnEnds.{own-ends}
use Rattle.route_judge.proofs.SaysLemmas.{says}
use Rattle.router_words.specs.Job.{judge_said}
use Rattle.run_checks.specs.Placed.{SaysIfLegal}
use Rattle.run_outcome.specs.declared.text_file.TextFile.TheVariants.{Problem, Routed}
use Rattle.run_outcome.proofs.StopLaws.{desk-fault}
use Rattle.run_checks.proofs.judging.judge_file.Goals as goal

pub returns-in-Err-clause-judges : goal.returns-in-Err-clause-judges
returns-in-Err-clause-judges g c =
    inl (c.in-Err.stop, c.in-Err.ensures.stop, c.unread_outcome.ensures)

pub returns-in-Err-clause-quiet : goal.returns-in-Err-clause-quiet
returns-in-Err-clause-quiet g c told =
    c.in-Err.ensures.quiet (λ fails. told (desk-fault (Problem c.in-Err.stop.file)
    c.in-Err.stop.fault c.unread_outcome.result c.unread_outcome.ensures fails))

pub returns-in-Err-read_route_file-clause-judges :
    goal.returns-in-Err-read_route_file-clause-judges
returns-in-Err-read_route_file-clause-judges g c =
    let fault = c.in-Err-read_route_file.fault in
    inr (
      c.in-Ok.placed,
      c.in-Ok.ensures.poses,
      Stops (record {
        fault = fault;
        because = stop-before (g.D.Desk.state c.read_placed.new.desk)
            (g.D.Desk.state c.read_route_file.new.desk) (g.D.Desk.state c.args.desk.now)
            (route_source (judge_said c.args.job.now).routed) fault c.in-Ok.ensures.files
            (c.in-Ok.ensures.quiet (λ e. e)) c.in-Err-read_route_file.ensures.reads.answers;
        tells = c.unread_outcome-in-Err-read_route_file.ensures;
      }),
    )

pub returns-in-Err-read_route_file-clause-quiet : goal.returns-in-Err-read_route_file-clause-quiet
returns-in-Err-read_route_file-clause-quiet g c told =
    c.in-Err-read_route_file.ensures.reads.quiet (λ fails. told (desk-fault Routed
    c.in-Err-read_route_file.fault c.unread_outcome-in-Err-read_route_file.result
    c.unread_outcome-in-Err-read_route_file.ensures fails)) ∙ c.in-Ok.ensures.quiet (λ e. e)

pub returns-clause-judges : goal.returns-clause-judges
returns-clause-judges g c =
    let placed = c.in-Ok.placed in
    let found = c.in-Ok-read_route_file.found in
    let job = judge_said c.args.job.now in
    let reads = says-before c.in-Ok.ensures.files c.in-Ok-read_route_file.ensures.reads.answers in
    let sound = c.in-Ok.ensures.sound in
    let poses = c.in-Ok.ensures.poses in
    let own = own-ends placed.arch poses.netlist.text placed.netlist placed.placement
    (poses.netlist.faultless, poses.netlist.says) sound.netlist sound.placement in
    let legal : SaysIfLegal job placed found = λ is. says job.strict job.width placed found
    c.in-Ok-read_route_file.ensures.sound own is in
    elim c.judged.ensures [
      | inl spent ↦ inr (
        placed,
        poses,
        Stops (record { fault = Text Memory; because = tt; tells = spent }),
      )
      | inr is ↦ inr (placed, poses, Reads found reads (is, legal))
    ]

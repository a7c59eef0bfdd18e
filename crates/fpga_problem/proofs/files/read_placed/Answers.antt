use Rattle.std.proofs.Common.{◌∙◌}
use Rattle.fpga_problem.specs.Files.{net_source, place_source}
use Rattle.fpga_problem.specs.Sources.{Reads, Stops}
use Rattle.fpga_problem.proofs.SourceLemmas.{says-before, stop-before}
use Rattle.fpga_problem.proofs.files.read_placed.Goals as goal

pub returns-in-Err-netlist-clause-stop : goal.returns-in-Err-netlist-clause-stop
returns-in-Err-netlist-clause-stop g c =
    let arch = c.in-Ok.arch in
    let fault = c.in-Err-netlist.fault in
    Reads arch c.in-Ok.ensures.reads.answers (Stops (record {
      fault = fault;
      because = stop-before (g.D.Desk.state c.architecture.new.desk)
          (g.D.Desk.state c.netlist.new.desk) (g.D.Desk.state c.args.desk.now)
          (net_source c.args.names.now.netlist.now arch) fault c.in-Ok.ensures.reads.files
          (c.in-Ok.ensures.reads.quiet (λ e. e)) c.in-Err-netlist.ensures.reads.answers;
      tells = c.unread-in-Err-netlist.ensures;
    }))

pub returns-in-Err-placement-clause-stop : goal.returns-in-Err-placement-clause-stop
returns-in-Err-placement-clause-stop g c =
    let arch = c.in-Ok.arch in
    let netlist = c.in-Ok-netlist.netlist in
    let net = c.in-Ok-netlist.ensures.reads in
    let fault = c.in-Err-placement.fault in
    Reads arch c.in-Ok.ensures.reads.answers
    (Reads netlist (says-before c.in-Ok.ensures.reads.files net.answers) (record {
      fault = fault;
      because = stop-before (g.D.Desk.state c.netlist.new.desk)
          (g.D.Desk.state c.placement.new.desk) (g.D.Desk.state c.args.desk.now)
          (place_source c.args.names.now.placement.now arch netlist) fault
          (net.files ∙ c.in-Ok.ensures.reads.files)
          (net.quiet (λ e. e) ∙ c.in-Ok.ensures.reads.quiet (λ e. e))
          c.in-Err-placement.ensures.reads.answers;
      tells = c.unread-in-Err-placement.ensures;
    }))

pub returns-in-Ok-placement-clause-poses : goal.returns-in-Ok-placement-clause-poses
returns-in-Ok-placement-clause-poses g c =
    let net = c.in-Ok-netlist.ensures.reads in
    let place = c.in-Ok-placement.ensures.reads in
    let files_net = net.files ∙ c.in-Ok.ensures.reads.files in
    record {
      arch = c.in-Ok.ensures.reads.answers;
      netlist = says-before c.in-Ok.ensures.reads.files net.answers;
      placement = says-before files_net place.answers;
    }

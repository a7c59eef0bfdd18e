use Rattle.std.proofs.Common.{subst, sym}
use Rattle.fpga_net.proofs.GivenLemmas.{readers-give}
use Rattle.fpga_problem.specs.Files.{ArePlacedUnread, IsSoundPlaced, PlacedNames, Poses, PosesPlaced, names_said, placed_names_of}
use Rattle.fpga_problem.specs.Sources.{IsStopped, route_source}
use Rattle.fpga_problem.specs.declared.unread.FileFault.TheVariants.{Text}
use Rattle.fpga_problem.proofs.FileLemmas.{fit-stops, placed-unread, route-stops, route-unread}
use Rattle.fpga_problem.proofs.SourceLemmas.{says-before, stop-before}
use Rattle.fpga_types.specs.Problem.{PlacedNetlist}
use Rattle.fpga_problem.proofs.files.read_files.Goals as goal

pub returns-in-Err-clause-stop : goal.returns-in-Err-clause-stop
returns-in-Err-clause-stop g c =
    let desk = g.D.Desk.state c.args.desk.now in
    let stops = IsStopped desk (g.D.Desk.state c.read_placed.new.desk) in
    placed-unread stops desk.files (names_said c.args.names.now) c.in-Err.unread
    (subst (λ (names : PlacedNames). ArePlacedUnread stops desk.files names c.in-Err.unread)
    c.placed.ensures c.in-Err.ensures.stop)

pub returns-in-Err-read_route_file-clause-stop : goal.returns-in-Err-read_route_file-clause-stop
returns-in-Err-read_route_file-clause-stop g c =
    let desk = g.D.Desk.state c.args.desk.now in
    let now = g.D.Desk.state c.read_route_file.new.desk in
    let placed = c.in-Ok.placed in
    let name = c.args.names.now.route.now in
    let fault = c.in-Err-read_route_file.fault in
    route-unread (IsStopped desk now) desk.files (names_said c.args.names.now) placed _
    (subst (λ (names : PlacedNames). PosesPlaced desk.files names placed) c.placed.ensures
    c.in-Ok.ensures.poses) (record {
      fault = fault;
      because = route-stops desk now name placed.arch placed.netlist placed.placement fault
          (stop-before (g.D.Desk.state c.read_placed.new.desk) now desk (route_source name) fault
          c.in-Ok.ensures.files (c.in-Ok.ensures.quiet (λ e. e))
          c.in-Err-read_route_file.ensures.reads.answers);
      tells = c.unread.ensures;
    })

pub fit-requires : goal.fit-requires
fit-requires g c =
    let sound = subst IsSoundPlaced (sym c.placed-2.view_is) c.in-Ok.ensures.sound in
    let inside = c.placed-2.inside in
    readers-give inside.arch inside.netlist sound.netlist inside.placement
    c.in-Ok-read_route_file.route sound.placement c.in-Ok-read_route_file.ensures.sound

pub returns-in-Err-fit-clause-stop : goal.returns-in-Err-fit-clause-stop
returns-in-Err-fit-clause-stop g c =
    let desk = g.D.Desk.state c.args.desk.now in
    let now = g.D.Desk.state c.read_route_file.new.desk in
    let inside = c.placed-2.inside in
    let poses = subst (λ (placed : PlacedNetlist). PosesPlaced desk.files (placed_names_of (names_said c.args.names.now)) placed)
    (sym c.placed-2.view_is) (subst (λ (names : PlacedNames). PosesPlaced desk.files names
    c.in-Ok.placed) c.placed.ensures c.in-Ok.ensures.poses) in
    route-unread (IsStopped desk now) desk.files (names_said c.args.names.now) _ _ poses (record {
      fault = Text c.in-Err-fit.fault;
      because = fit-stops desk now c.args.names.now.route.now inside.arch inside.netlist
          inside.placement c.in-Ok-read_route_file.route
          (says-before c.in-Ok.ensures.files c.in-Ok-read_route_file.ensures.reads.answers)
          c.in-Err-fit.fault c.in-Err-fit.ensures;
      tells = c.unread-in-Err-fit.ensures;
    })

pub returns-in-Ok-fit-clause-poses : goal.returns-in-Ok-fit-clause-poses
returns-in-Ok-fit-clause-poses g c =
    let desk = g.D.Desk.state c.args.desk.now in
    let poses = subst (λ (placed : PlacedNetlist). PosesPlaced desk.files (placed_names_of (names_said c.args.names.now)) placed)
    (sym c.placed-2.view_is) (subst (λ (names : PlacedNames). PosesPlaced desk.files names
    c.in-Ok.placed) c.placed.ensures c.in-Ok.ensures.poses) in
    subst (Poses desk.files (names_said c.args.names.now)) (sym c.in-Ok-fit.ensures.1) (record {
      arch = poses.arch;
      netlist = poses.netlist;
      placement = poses.placement;
      route = says-before c.in-Ok.ensures.files
          c.in-Ok-read_route_file.ensures.reads.answers;
      fits = c.in-Ok-fit.ensures.0;
    })

use Rattle.std.proofs.Common.{◌<◌, List, length, get_or, arith, subst, sym}
use Rattle.fpga_types.specs.Boxes.{opens}
use Rattle.fpga_graph.specs.GraphOf.{GraphOf}
use Rattle.sat_clause.specs.Literal.{Clause}
use Rattle.route_encode.specs.Adding.{Adds, HasRoom}
use Rattle.route_encode.specs.Encoding.{open_track}
use Rattle.route_encode.proofs.AddLemmas.{adds-more, room-next}
use Rattle.route_encode.proofs.FabricLemmas.{NO_PIN_STEP, marked-clauses}
use Rattle.route_encode.proofs.fabric.add_open_tracks.Goals as goal

pub add_open_track-requires-clause-room : goal.add_open_track-requires-clause-room
add_open_track-requires-clause-room c =
    let g : GraphOf = c.args.graph.now in
    let below : c.loop-step.step-index < length c.args.pin_steps.now = omega arith in
    let same = marked-clauses g c.args.variables.width
    (get_or c.args.pin_steps.now c.loop-step.step-index NO_PIN_STEP)
    c.opened-opened.result c.requires.width c.opened-opened.ensures in
    subst (HasRoom c.loop-step.formula) (sym same)
    (room-next (open_track (opens g.arch g.width) g.width) c.args.pin_steps.now
    c.loop-step.step-index _ below _ _ c.requires.room c.loop-step.invariant)

pub loop-step-preserved : goal.loop-step-preserved
loop-step-preserved c =
    let g : GraphOf = c.args.graph.now in
    let below : c.loop-step.step-index < length c.args.pin_steps.now = omega arith in
    let same = marked-clauses g c.args.variables.width
    (get_or c.args.pin_steps.now c.loop-step.step-index NO_PIN_STEP)
    c.opened-opened.result c.requires.width c.opened-opened.ensures in
    adds-more (open_track (opens g.arch g.width) g.width) c.args.pin_steps.now
    c.loop-step.step-index _ below _ _ _ c.loop-step.invariant
    (subst (λ (added : List Clause). Adds c.loop-step.formula added c.add_open_track.new.formula)
    same c.add_open_track.ensures)

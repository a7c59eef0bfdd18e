use Rattle.std.proofs.Common.{◌<◌, length, arith}
use Rattle.route_encode.specs.Added.{step_clauses}
use Rattle.route_encode.proofs.AddLemmas.{adds-more, room-next}
use Rattle.route_encode.proofs.fabric.add_joined_tracks.Goals as goal

pub add_joined_track-requires-clause-room : goal.add_joined_track-requires-clause-room
add_joined_track-requires-clause-room c =
    let below : c.loop-step.step-index < length c.args.steps.now = omega arith in
    room-next (step_clauses c.args.graph.now c.args.slots.now) c.args.steps.now
    c.loop-step.step-index _ below _ _ c.requires.room c.loop-step.invariant

pub loop-step-preserved : goal.loop-step-preserved
loop-step-preserved c =
    let below : c.loop-step.step-index < length c.args.steps.now = omega arith in
    adds-more (step_clauses c.args.graph.now c.args.slots.now) c.args.steps.now
    c.loop-step.step-index _ below _ _ _ c.loop-step.invariant c.add_joined_track.ensures

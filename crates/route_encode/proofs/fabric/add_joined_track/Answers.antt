use Rattle.std.proofs.Common.{List, subst, sym}
use Rattle.list_laws.proofs.Places.{none_is_not_some}
use Rattle.fpga_types.specs.Slots.{slot_at}
use Rattle.fpga_types.proofs.MeetingLemmas.{meeting-found}
use Rattle.sat_clause.specs.Literal.{Clause}
use Rattle.route_encode.specs.Adding.{Adds, HasRoom}
use Rattle.route_encode.proofs.FabricLemmas.{crossing-clauses}
use Rattle.route_encode.proofs.fabric.add_joined_track.Goals as goal

pub add_crossed_tracks-requires-clause-room : goal.add_crossed_tracks-requires-clause-room
add_crossed_tracks-requires-clause-room c =
    let same = crossing-clauses c.args.graph.now c.args.variables.width c.args.slots.now
    c.args.step c.in-Some.crossing c.requires.width c.in-Some.ensures.tracks in
    subst (HasRoom c.args.formula.now) (sym same) c.requires.room

pub returns : goal.returns
returns c =
    let same = crossing-clauses c.args.graph.now c.args.variables.width c.args.slots.now
    c.args.step c.in-Some.crossing c.requires.width c.in-Some.ensures.tracks in
    subst (λ (added : List Clause). Adds c.args.formula.now added c.add_crossed_tracks.new.formula)
    same c.add_crossed_tracks.ensures

pub unreachable-requires : goal.unreachable-requires
unreachable-requires c =
    let found = meeting-found c.args.graph.now.grid
    (slot_at c.args.slots.now c.args.step.from).cell
    (slot_at c.args.slots.now c.args.step.to).cell c.requires.meet.0 c.requires.meet.1 in
    none_is_not_some (rw found at (c.in_default.ensures.tracks 0))

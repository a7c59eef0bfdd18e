use Rattle.std.specs.Prelude.{flat_map, map}
use Rattle.route_encode.specs.Encoding.{below, one_track, some_track}
use Rattle.route_encode.proofs.AddLemmas.{adds-both, room-first, room-second}
use Rattle.route_encode.proofs.strict.add_slot_clauses.Goals as goal

pub add_some_tracks-requires-clause-room : goal.add_some_tracks-requires-clause-room
add_some_tracks-requires-clause-room c =
    room-first c.args.formula.now
    (map (some_track c.args.variables.width) (below c.args.variables.slots))
    (flat_map (one_track c.args.variables.width) (below c.args.variables.slots)) c.requires.room

pub add_one_tracks-requires-clause-room : goal.add_one_tracks-requires-clause-room
add_one_tracks-requires-clause-room c =
    room-second c.args.formula.now c.add_some_tracks.new.formula
    (map (some_track c.args.variables.width) (below c.args.variables.slots))
    (flat_map (one_track c.args.variables.width) (below c.args.variables.slots)) c.requires.room
    c.add_some_tracks.ensures

pub returns : goal.returns
returns c =
    adds-both c.args.formula.now c.add_some_tracks.new.formula c.add_one_tracks.new.formula
    (map (some_track c.args.variables.width) (below c.args.variables.slots))
    (flat_map (one_track c.args.variables.width) (below c.args.variables.slots))
    c.add_some_tracks.ensures c.add_one_tracks.ensures

-- the clauses of the slots so far were added
use Rattle.std.specs.Prelude.{flat_map}
use Rattle.route_encode.specs.Adding.{Adds}
use Rattle.route_encode.specs.Encoding.{below, one_track}
use Rattle.route_encode.proofs.clauses.add_one_tracks.Given as goal

abbrev pub invariant-loop-slot : goal.invariant-loop-slot
invariant-loop-slot l =
    Adds l.initial.formula (flat_map (one_track l.variables.width) (below l.slot)) l.formula

-- the clauses of the tracks so far were added
use Rattle.std.specs.Prelude.{flat_map}
use Rattle.route_encode.specs.Adding.{Adds}
use Rattle.route_encode.specs.Encoding.{below, no_higher_track}
use Rattle.route_encode.proofs.clauses.add_one_track.Given as goal

abbrev pub invariant-loop-track : goal.invariant-loop-track
invariant-loop-track l =
    Adds l.initial.formula (flat_map (no_higher_track l.variables.width l.slot)
    (below l.track)) l.formula

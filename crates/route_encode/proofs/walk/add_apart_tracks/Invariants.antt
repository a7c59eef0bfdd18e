-- the clauses of the slots so far were added
use Rattle.std.specs.Prelude.{flat_map}
use Rattle.route_encode.specs.Adding.{Adds}
use Rattle.route_encode.specs.Encoding.{below}
use Rattle.route_encode.specs.Rivals.{apart_from_rivals}
use Rattle.route_encode.proofs.walk.add_apart_tracks.Given as goal

abbrev pub invariant-loop-slot : goal.invariant-loop-slot
invariant-loop-slot l =
    Adds l.initial.formula (flat_map (apart_from_rivals l.variables.width l.chains)
    (below l.slot)) l.formula

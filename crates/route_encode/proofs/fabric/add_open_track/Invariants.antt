-- the clauses of the tracks so far were added
use Rattle.std.specs.Prelude.{flat_map}
use Rattle.route_encode.specs.Adding.{Adds}
use Rattle.route_encode.specs.Encoding.{below}
use Rattle.route_encode.proofs.FabricLemmas.{closed_at}
use Rattle.route_encode.proofs.fabric.add_open_track.Given as goal

abbrev pub invariant-loop-track : goal.invariant-loop-track
invariant-loop-track l =
    Adds l.initial.formula
    (flat_map (closed_at l.opened l.variables.width l.step.slot) (below l.track)) l.formula

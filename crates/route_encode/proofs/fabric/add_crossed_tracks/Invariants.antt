-- the clauses of the tracks so far were added
use Rattle.std.proofs.Common.{[], ◌∷◌}
use Rattle.std.specs.Prelude.{flat_map}
use Rattle.fpga_graph.specs.Crossing.{crossed_track}
use Rattle.route_encode.specs.Adding.{Adds}
use Rattle.route_encode.specs.Encoding.{below, has, lacks}
use Rattle.route_encode.proofs.fabric.add_crossed_tracks.Given as goal

abbrev pub invariant-loop-track : goal.invariant-loop-track
invariant-loop-track l =
    Adds l.initial.formula
    (flat_map (λ t. (lacks l.variables.width l.step.from t
    ∷ has l.variables.width l.step.to (crossed_track l.crossing t) ∷ []) ∷ [])
    (below l.track)) l.formula

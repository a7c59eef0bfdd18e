-- the clauses of the slots so far were added
use Rattle.std.proofs.Common.{[], ◌∷◌}
use Rattle.std.specs.Prelude.{flat_map}
use Rattle.route_encode.specs.Adding.{Adds}
use Rattle.route_encode.specs.Encoding.{below, some_track}
use Rattle.route_encode.proofs.clauses.add_some_tracks.Given as goal

abbrev pub invariant-loop-slot : goal.invariant-loop-slot
invariant-loop-slot l =
    Adds l.initial.formula (flat_map (λ s. some_track l.variables.width s ∷ [])
    (below l.slot)) l.formula

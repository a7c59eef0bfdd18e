-- the clauses of the tracks so far were added
use Rattle.std.proofs.Common.{[], ◌∷◌, take}
use Rattle.std.specs.Prelude.{flat_map}
use Rattle.route_encode.specs.Adding.{Adds}
use Rattle.route_ordered.specs.Ordered.{only_behind}
use Rattle.route_ordered.proofs.adding.add_behind.Given as goal

abbrev pub invariant-loop-track : goal.invariant-loop-track
invariant-loop-track l = Adds l.initial.formula
    (flat_map (λ t. only_behind l.variables.width l.earlier l.group l.slot t ∷ [])
    (take l.track-index l.tracks)) l.formula

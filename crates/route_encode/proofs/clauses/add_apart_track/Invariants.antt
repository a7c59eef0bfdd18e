-- the clauses of the tracks so far were added
use Rattle.std.proofs.Common.{[], ◌∷◌}
use Rattle.std.specs.Prelude.{flat_map}
use Rattle.route_encode.specs.Adding.{Adds}
use Rattle.route_encode.specs.Encoding.{below, not_both}
use Rattle.route_encode.proofs.clauses.add_apart_track.Given as goal

abbrev pub invariant-loop-shared : goal.invariant-loop-shared
invariant-loop-shared l =
    Adds l.initial.formula (flat_map (λ t. not_both l.variables.width l.lower t l.higher t ∷ [])
    (below l.shared)) l.formula

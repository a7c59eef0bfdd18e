-- the clauses of the higher tracks so far were added
use Rattle.std.proofs.Common.{◌-◌, ◌+◌, [], ◌∷◌}
use Rattle.std.specs.List.{range_with_len}
use Rattle.std.specs.Prelude.{flat_map}
use Rattle.route_encode.specs.Adding.{Adds}
use Rattle.route_encode.specs.Encoding.{not_both}
use Rattle.route_encode.proofs.clauses.add_no_higher_track.Given as goal

abbrev pub invariant-loop-higher : goal.invariant-loop-higher
invariant-loop-higher l =
    Adds l.initial.formula
    (flat_map (λ u. not_both l.variables.width l.slot l.track l.slot u ∷ [])
    (range_with_len (l.track + 1) (l.higher - (l.track + 1)))) l.formula

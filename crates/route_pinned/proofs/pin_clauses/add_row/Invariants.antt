-- the clauses of the slots so far were added
use Rattle.std.proofs.Common.{[], ◌∷◌, take}
use Rattle.std.specs.Prelude.{flat_map}
use Rattle.std.specs.List.{enumerate_from}
use Rattle.route_encode.specs.Adding.{Adds}
use Rattle.route_encode.specs.Encoding.{has}
use Rattle.route_pinned.proofs.pin_clauses.add_row.Given as goal

abbrev pub invariant-loop-track : goal.invariant-loop-track
invariant-loop-track l =
    Adds l.initial.formula (flat_map (λ pin. (has l.variables.width pin.1 pin.0 ∷ []) ∷ [])
    (take l.track (enumerate_from 0 l.row))) l.formula

-- the clauses of the slots so far were added
use Rattle.std.proofs.Common.{take}
use Rattle.std.specs.Prelude.{flat_map}
use Rattle.std.specs.List.{enumerate_from}
use Rattle.route_encode.specs.Adding.{Adds}
use Rattle.route_ordered.specs.Ordered.{slot_clauses}
use Rattle.route_ordered.proofs.adding.add_precedence.Given as goal

abbrev pub invariant-loop-at : goal.invariant-loop-at
invariant-loop-at l = Adds l.initial.formula
    (flat_map (λ at. slot_clauses l.pattern l.variables.width (take at.0 l.row) at.1)
    (take l.at (enumerate_from 0 l.row))) l.formula

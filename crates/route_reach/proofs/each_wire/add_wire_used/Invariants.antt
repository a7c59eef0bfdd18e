-- the clauses of the joins so far were added
use Rattle.std.proofs.Common.{[], ◌∷◌}
use Rattle.std.specs.Prelude.{flat_map}
use Rattle.route_encode.specs.Adding.{Adds}
use Rattle.route_encode.specs.Encoding.{below}
use Rattle.route_reach.specs.WireClauses.{wire_unreached, wire_used}
use Rattle.route_reach.proofs.each_wire.add_wire_used.Given as goal

abbrev pub invariant-loop-joins : goal.invariant-loop-joins
invariant-loop-joins l = Adds l.initial.formula
    (flat_map (λ d. (wire_unreached l.variables.wires l.variables.reach l.wire d
    ∷ wire_used l.wire ∷ []) ∷ []) (below l.joins)) l.formula

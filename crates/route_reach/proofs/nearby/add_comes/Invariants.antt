-- the clauses of the joins so far were added
use Rattle.std.proofs.Common.{[], ◌∷◌}
use Rattle.std.specs.Prelude.{flat_map}
use Rattle.route_encode.specs.Adding.{Adds}
use Rattle.route_encode.specs.Encoding.{below}
use Rattle.route_reach.specs.WireClauses.{comes_clause}
use Rattle.route_reach.proofs.nearby.add_comes.Given as goal

abbrev pub invariant-loop-joins : goal.invariant-loop-joins
invariant-loop-joins l = Adds l.initial.formula
    (flat_map (λ d. comes_clause l.variables.wires l.variables.reach l.wire l.beside d ∷ [])
    (below l.joins)) l.formula

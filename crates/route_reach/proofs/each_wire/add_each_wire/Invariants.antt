-- the clauses of the wires so far were added
use Rattle.std.specs.Prelude.{flat_map}
use Rattle.route_encode.specs.Adding.{Adds}
use Rattle.route_encode.specs.Encoding.{below}
use Rattle.route_reach.specs.WireClauses.{rule_clauses}
use Rattle.route_reach.proofs.each_wire.add_each_wire.Given as goal

abbrev pub invariant-loop-wire : goal.invariant-loop-wire
invariant-loop-wire l = Adds l.initial.formula
    (flat_map (rule_clauses l.variables.wires l.variables.reach l.rule) (below l.wire)) l.formula

-- the clauses of the lines so far were added
use Rattle.std.proofs.Common.{◌-◌, take}
use Rattle.std.specs.Prelude.{flat_map}
use Rattle.fpga_types.specs.Slots.{adjacent}
use Rattle.route_encode.specs.Adding.{Adds}
use Rattle.route_reach.specs.SinkClauses.{line_clauses}
use Rattle.route_reach.proofs.sinks.SinkReach.add_lines.Given as goal

abbrev pub invariant-loop-i : goal.invariant-loop-i
invariant-loop-i l = Adds l.initial.formula
    (flat_map (line_clauses l.self.variables.wires l.self.variables.reach l.self.graph.now
    l.self.numbers.now l.net) (take (l.i - 1) (adjacent l.elems))) l.formula

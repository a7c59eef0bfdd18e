use Rattle.std.proofs.Common.{arith}
use Rattle.route_encode.proofs.AddLemmas.{below-more, below-room}
use Rattle.route_reach.specs.WireClauses.{rule_clauses}
use Rattle.route_reach.proofs.each_wire.add_each_wire.Goals as goal

pub add_wire-requires-clause-room : goal.add_wire-requires-clause-room
add_wire-requires-clause-room c =
    below-room (rule_clauses c.args.variables.wires c.args.variables.reach c.args.rule)
    c.args.variables.wires c.loop-wire.wire (omega arith) _ _ c.requires.room c.loop-wire.invariant

pub loop-wire-preserved : goal.loop-wire-preserved
loop-wire-preserved c =
    below-more (rule_clauses c.args.variables.wires c.args.variables.reach c.args.rule)
    c.args.variables.wires c.loop-wire.wire (omega arith) _ _ _ c.loop-wire.invariant
    c.add_wire.ensures

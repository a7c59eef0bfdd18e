use Rattle.std.proofs.Common.{arith}
use Rattle.route_encode.proofs.AddLemmas.{below-more, below-room}
use Rattle.problem_facts.specs.Groups.{group_count}
use Rattle.route_ordered.specs.Ordered.{group_clauses}
use Rattle.route_ordered.proofs.adding.add_slot.Goals as goal

pub add_group-requires-clause-room : goal.add_group-requires-clause-room
add_group-requires-clause-room c =
    below-room (group_clauses c.args.pattern c.args.variables.width c.args.earlier.now c.args.slot)
    (group_count c.args.pattern c.args.variables.width) c.loop-group.group
    (omega arith) _ _ c.requires.room c.loop-group.invariant

pub loop-group-preserved : goal.loop-group-preserved
loop-group-preserved c =
    below-more (group_clauses c.args.pattern c.args.variables.width c.args.earlier.now c.args.slot)
    (group_count c.args.pattern c.args.variables.width) c.loop-group.group
    (omega arith) _ _ _ c.loop-group.invariant c.in_ok-add_group.ensures

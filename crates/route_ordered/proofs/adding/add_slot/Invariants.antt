-- the clauses of the groups so far were added
use Rattle.std.specs.Prelude.{flat_map}
use Rattle.route_encode.specs.Adding.{Adds}
use Rattle.route_encode.specs.Encoding.{below}
use Rattle.route_ordered.specs.Ordered.{group_clauses}
use Rattle.route_ordered.proofs.adding.add_slot.Given as goal

abbrev pub invariant-loop-group : goal.invariant-loop-group
invariant-loop-group l = Adds l.initial.formula
    (flat_map (group_clauses l.pattern l.variables.width l.earlier l.slot) (below l.group))
    l.formula

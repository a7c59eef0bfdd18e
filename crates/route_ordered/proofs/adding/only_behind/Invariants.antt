-- the literals of the earlier slots so far
use Rattle.std.proofs.Common.{◌≡◌, take}
use Rattle.route_ordered.specs.Ordered.{only_behind}
use Rattle.route_ordered.proofs.adding.only_behind.Given as goal

abbrev pub invariant-loop-e : goal.invariant-loop-e
invariant-loop-e l = l.clause.items
    ≡ only_behind l.variables.width (take l.e-index l.earlier) l.group l.slot l.track

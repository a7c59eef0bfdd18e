-- the literals of the tracks so far
use Rattle.std.proofs.Common.{◌≡◌, ◌++◌, take}
use Rattle.std.specs.Prelude.{map}
use Rattle.route_encode.specs.Encoding.{has}
use Rattle.route_ordered.proofs.adding.push_group.Given as goal

abbrev pub invariant-loop-track : goal.invariant-loop-track
invariant-loop-track l = l.clause.items
    ≡ l.initial.clause.items ++ map (has l.variables.width l.slot) (take l.track-index l.group)

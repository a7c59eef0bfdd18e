-- the rows of the slots so far
use Rattle.std.proofs.Common.{◌≡◌}
use Rattle.std.specs.Prelude.{map}
use Rattle.route_encode.specs.Encoding.{below}
use Rattle.route_reach.specs.Near.{near_of, rows_of}
use Rattle.route_reach.proofs.near_table.near_table.Given as goal

abbrev pub invariant-loop-slot : goal.invariant-loop-slot
invariant-loop-slot l =
    rows_of l.table.items ≡ map (near_of l.problem.route) (below l.slot-index)

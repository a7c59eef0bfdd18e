-- the numbers of the rows so far
use Rattle.std.proofs.Common.{◌≡◌, ◌≤◌, ◌*◌, length, take}
use Rattle.std.specs.Prelude.{sum_by}
use Rattle.route_reach.specs.Near.{rows_of}
use Rattle.route_reach.proofs.near_table.near_count.Given as goal

abbrev pub invariant-loop-row : goal.invariant-loop-row
invariant-loop-row l = record {
  count : l.count ≡ sum_by length (rows_of (take l.row-index l.table));
  few : l.count ≤ 6 * l.row-index;
}

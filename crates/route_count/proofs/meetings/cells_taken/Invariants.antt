-- the cells that the slots so far take for the tree have a slot
use Rattle.std.proofs.Common.{◌≡◌, length}
use Rattle.fpga_types.specs.CellNumbers.{cell_count}
use Rattle.route_count.specs.Meetings.{AreTaken}
use Rattle.route_count.proofs.meetings.cells_taken.Given as goal

abbrev pub invariant-loop-s : goal.invariant-loop-s
invariant-loop-s l = record {
  each : length l.taken.items ≡ cell_count l.grid;
  taken : AreTaken l.grid l.slots l.trees l.root l.s l.taken.items;
}

-- the slots so far are counted, and no cell has more than there are tracks
use Rattle.std.proofs.Common.{◌≡◌, ◌<◌, ◌≤◌, ℕ, length}
use Rattle.std.specs.Prelude.{slice_index}
use Rattle.fpga_types.specs.CellNumbers.{cell_count}
use Rattle.problem_facts.specs.CellCounts.{AreCounted}
use Rattle.route_count.proofs.crowded.first_over.Given as goal

abbrev pub invariant-loop-slot : goal.invariant-loop-slot
invariant-loop-slot l = record {
  size : length l.counts ≡ cell_count l.grid;
  counted : AreCounted l.grid l.slots l.slot-index l.counts;
  few : (k : ℕ) → k < length l.counts → slice_index l.counts k ≤ l.width;
}

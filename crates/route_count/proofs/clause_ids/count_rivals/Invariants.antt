-- no cell has more of the slots from s on than there are
use Rattle.std.proofs.Common.{◌≡◌, ◌+◌, ◌≤◌, length, All}
use Rattle.fpga_types.specs.CellNumbers.{cell_count}
use Rattle.fpga_types.specs.declared.limits.TheConstants.{SLOT_LIMIT}
use Rattle.route_count.proofs.clause_ids.count_rivals.Given as goal

abbrev pub invariant-loop-s : goal.invariant-loop-s
invariant-loop-s l = record {
  each : length l.rivals ≡ length l.slots;
  few : All (λ n. n ≤ SLOT_LIMIT) l.rivals;
  cells : length l.counts ≡ cell_count l.grid;
  low : All (λ n. n + l.s ≤ length l.slots) l.counts;
}

-- the sums so far are of so many numbers
use Rattle.std.proofs.Common.{◌≡◌, ◌*◌, ◌≤◌, length, All}
use Rattle.fpga_types.specs.declared.limits.TheConstants.{SLOT_LIMIT}
use Rattle.route_count.proofs.clause_ids.sums_before.Given as goal

abbrev pub invariant-loop-n : goal.invariant-loop-n
invariant-loop-n l = record {
  each : length l.sums.items ≡ l.n-index;
  few : All (λ n. n ≤ SLOT_LIMIT * SLOT_LIMIT) l.sums.items;
  low : l.sum ≤ l.n-index * SLOT_LIMIT;
}

-- the tracks of the switches so far are marked
use Rattle.std.proofs.Common.{◌≡◌, ℕ, false, length}
use Rattle.std.specs.Prelude.{◌==◌, slice_index_or}
use Rattle.std.specs.List.{list_any, range_with_len}
use Rattle.fpga_types.specs.Boxes.{switch_track}
use Rattle.fpga_graph.proofs.opened.switch_row.Given as goal

abbrev pub invariant-loop-k : goal.invariant-loop-k
invariant-loop-k l = record {
  size : length l.row ≡ 64;
  marked : (t : ℕ) → slice_index_or l.row t false
      ≡ list_any (λ k. switch_track l.width l.count l.number k == t) (range_with_len 0 l.k);
}

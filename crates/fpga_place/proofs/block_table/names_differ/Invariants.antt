-- the names so far differ
use Rattle.std.proofs.Common.{◌≢◌, ℕ, ◌+◌, ◌<◌}
use Rattle.std.specs.Prelude.{slice_index}
use Rattle.fpga_place.specs.BlockTables.{name_at}
use Rattle.fpga_place.proofs.block_table.names_differ.Given as goal

abbrev pub invariant-loop-k : goal.invariant-loop-k
invariant-loop-k l = (j : ℕ) → j + 1 < l.k
    → name_at l.blocks (slice_index l.row j) ≢ name_at l.blocks (slice_index l.row (j + 1))

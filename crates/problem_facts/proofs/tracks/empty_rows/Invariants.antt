-- the rows so far have no mark
use Rattle.std.proofs.Common.{◌≡◌, ℕ, [], false, length, slice_index_or}
use Rattle.problem_facts.proofs.tracks.empty_rows.Given as goal

abbrev pub invariant-loop : goal.invariant-loop
invariant-loop l = record {
  each : length l.rows.items ≡ l.counter;
  none : (tree track : ℕ)
      → slice_index_or (slice_index_or l.rows.items tree []) track false ≡ false;
}

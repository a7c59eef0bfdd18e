-- none of the rows so far is full
use Rattle.std.proofs.Common.{ℕ, [], slice_index_or, ◌<◌}
use Rattle.problem_facts.specs.Alone.{IsFull}
use Rattle.problem_facts.proofs.tracks.first_full.Given as goal

abbrev pub invariant-loop-s : goal.invariant-loop-s
invariant-loop-s l = (k : ℕ) → k < l.s → ¬ IsFull l.width (slice_index_or l.rows k [])

-- the tracks so far are marked
use Rattle.std.proofs.Common.{◌≡◌, ℕ, true, false, slice_index_or, ◌<◌}
use Rattle.problem_facts.proofs.tracks.is_full.Given as goal

abbrev pub invariant-loop-t : goal.invariant-loop-t
invariant-loop-t l = (j : ℕ) → j < l.t → slice_index_or l.row j false ≡ true

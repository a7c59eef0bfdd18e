-- the tracks so far are marked that are not opened, and the others as before
use Rattle.std.proofs.Common.{◌≡◌, ◌||◌, ℕ, false, not, slice_index_or, ◌<◌, ◌≤◌, length}
use Rattle.problem_facts.proofs.tracks.close.Given as goal

abbrev pub invariant-loop-t : goal.invariant-loop-t
invariant-loop-t l = record {
  long : length l.row ≡ 64;
  done : (j : ℕ) → j < l.t → slice_index_or l.row j false
      ≡ (slice_index_or l.initial.row j false || not (slice_index_or l.opened j false));
  left : (j : ℕ) → l.t ≤ j → slice_index_or l.row j false ≡ slice_index_or l.initial.row j false;
}

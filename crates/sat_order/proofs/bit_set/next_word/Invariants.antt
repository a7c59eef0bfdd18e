use Rattle.std.proofs.Common.{◌≡◌, ◌≤◌, ◌<◌, ℕ, slice_index}
use Rattle.sat_order.proofs.bit_set.next_word.Given as goal

-- the words so far are 0
abbrev pub invariant-loop-at : goal.invariant-loop-at
invariant-loop-at l = record {
  empty : (k : ℕ) → l.from ≤ k → k < l.at → slice_index l.words k ≡ 0;
}

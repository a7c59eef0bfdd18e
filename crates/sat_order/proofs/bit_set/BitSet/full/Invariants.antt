use Rattle.std.proofs.Common.{◌≡◌, ◌<◌, ℕ, length, slice_index_or, true, false}
use Rattle.sat_order.proofs.bit_set.BitSet.full.Given as goal

-- the numbers so far are in the set
abbrev pub invariant-loop-number : goal.invariant-loop-number
invariant-loop-number l = record {
  long : length l.set ≡ l.size;
  all : (x : ℕ) → x < l.number → slice_index_or l.set x false ≡ true;
}

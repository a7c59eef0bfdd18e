-- Sets of numbers below a size, a bit for each in words of 64.
use Rattle.std.specs.Prelude.{◌≡◌, ℕ, ◌+◌, ◌/◌, ◌%◌, ◌≤◌, ◌<◌, ◌==◌, Bool, true, false, List, length, map, slice_index, slice_index_or}
use Rattle.std.specs.Int.{bit_at}
use Rattle.std.specs.List.{range_with_len}
use Rattle.sat_clause.specs.declared.limits.TheConstants.{VARIABLE_LIMIT}

-- whether the bit of a number is set
abbrev pub has : List ℕ → ℕ → Bool
has words x = bit_at (slice_index words (x / 64)) (x % 64) == 1

-- of each number below the size, whether it is in the set
abbrev pub members : ℕ → List ℕ → List Bool
members size words = map (has words) (range_with_len 0 size)

-- there are words for all numbers, the first of them are 0, and no bit is set past the size
pub record IsBitSet (size : ℕ) (words : List ℕ) (low : ℕ) : Type 0 where
  pub few : size ≤ VARIABLE_LIMIT
  pub many : length words ≡ size / 64 + 1
  pub none : (k : ℕ) → k < low → slice_index words k ≡ 0
  pub within : (x : ℕ) → has words x ≡ true → x < size

-- the number is the least of the set
pub record IsLeast (set : List Bool) (x : ℕ) : Type 0 where
  pub within : x < length set
  pub there : slice_index_or set x false ≡ true
  pub least : (y : ℕ) → slice_index_or set y false ≡ true → x ≤ y

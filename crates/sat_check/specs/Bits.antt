-- Rows of bits, in words of 64.
use Rattle.std.specs.Prelude.{ℕ, ◌/◌, ◌%◌, ◌==◌, Bool, List, slice_index_or}
use Rattle.std.specs.Int.{bit_at}

-- the bit is set; those behind the last word are not
abbrev pub is_set : List ℕ → ℕ → Bool
is_set words at = bit_at (slice_index_or words (at / 64) 0) (at % 64) == 1

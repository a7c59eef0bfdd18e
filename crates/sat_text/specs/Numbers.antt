-- Signed numbers, as the words of CNF and LRAT texts say them.
use Rattle.std.specs.Prelude.{ℕ, ℤ, pos, negsuc, Bool, not, List, Option, None, Some, option_and_then, is_some, filter_map}
use Rattle.std.specs.List.{list_any}
use Rattle.std.specs.Ordering.{int_eq}
use Rattle.fpga_text.specs.Bytes.{Bytes}
use Rattle.fpga_text.specs.Numbers.{signed_number_of}
use Rattle.fpga_text.specs.Words.{Words}

-- the word says a number of 64 bits with its sign
abbrev pub is_number : Bytes → Bool
is_number word = is_some (signed_number_of word)

-- one of the words says no number
abbrev pub lacks_number : Words → Bool
lacks_number words = list_any (λ word. not (is_number word)) words

-- the numbers that the words say
abbrev pub numbers_of : Words → List ℤ
numbers_of words = filter_map signed_number_of words

-- the number, if it is not negative
abbrev pub if_natural : ℤ → Option ℕ
if_natural (pos n) = Some n
if_natural (negsuc n) = None

-- the number that a word says, if it is not negative
abbrev pub natural_of : Bytes → Option ℕ
natural_of word = option_and_then if_natural (signed_number_of word)

-- the number is 0
abbrev pub is_zero : ℤ → Bool
is_zero n = int_eq n (pos 0)

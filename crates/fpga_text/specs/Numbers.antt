-- Whole numbers, as the words of a text write them.
use Rattle.std.specs.Prelude.{ℕ, ◌^◌, ◌==◌, nat_lt, nat_le, take, replicate, ℤ, pos, neg_ℤ, Bool, not, ◌&&◌, [], ◌∷◌, ◌++◌, Option, Some, None, option_and_then, if◌then◌else◌}
use Rattle.std.specs.List.{list_all, before_first, after_first}
use Rattle.std.specs.Char.{is_ascii_digit}
use Rattle.std.specs.Str.Parse.{digits_value, digits_value_after}
use Rattle.fpga_text.specs.Bytes.{Bytes, is_empty}

-- one or more decimal digits
abbrev pub are_digits : Bytes → Bool
are_digits word = not (is_empty word) && list_all is_ascii_digit word

-- the value, where it fits 64 bits
abbrev pub if_64_bits : ℕ → Option ℕ
if_64_bits n = if nat_lt n (2 ^ 64) then Some n else None

-- the whole number that a word says
abbrev pub whole_number_of : Bytes → Option ℕ
whole_number_of word = if are_digits word then if_64_bits (digits_value 10 word) else None

-- 64 bits with a sign reach up to 2^63 - 1
abbrev pub plain_number : ℕ → Option ℤ
plain_number n = if nat_lt n (2 ^ 63) then Some (pos n) else None

-- and down to -2^63
abbrev pub negated_number : ℕ → Option ℤ
negated_number n = if nat_le n (2 ^ 63) then Some (neg_ℤ (pos n)) else None

-- the number that a word says: digits with or without a leading minus sign, of 64 bits with its
-- sign
abbrev pub signed_number_of : Bytes → Option ℤ
signed_number_of [] = None
signed_number_of (b ∷ more) =
    if b == 45 then option_and_then negated_number (whole_number_of more)
    else option_and_then plain_number (whole_number_of (b ∷ more))

-- the number with these at its end, if they are digits and the value fits 64 bits
abbrev pub with_digits : Option ℕ → Bytes → Option ℕ
with_digits None digits = None
with_digits (Some n) digits =
    if list_all is_ascii_digit digits then if_64_bits (digits_value_after 10 n digits) else None

-- the byte is a point
abbrev pub is_point : ℕ → Bool
is_point b = b == 46

-- one or more decimal digits, with a point before, among or behind them or none
abbrev pub is_decimal : Bytes → Bool
is_decimal word = are_digits (before_first is_point word ++ after_first is_point word)

-- the first six digits, filled up with zeros
abbrev pub six_digits : Bytes → Bytes
six_digits digits = take 6 (digits ++ replicate 6 48)

-- the decimal that a word says, in millionths: digits behind the sixth are cut off
abbrev pub millionths_of : Bytes → Option ℕ
millionths_of word =
    if is_decimal word
    then if_64_bits (digits_value 10
    (before_first is_point word ++ six_digits (after_first is_point word)))
    else None

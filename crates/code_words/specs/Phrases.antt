-- What stands in a line that goes on behind it.
use Rattle.std.specs.Prelude.{ℕ, Bool, false, List, [], ◌∷◌, ◌&&◌, ◌||◌, nat_le}

-- a letter or a digit
abbrev pub is_letter : ℕ → Bool
is_letter byte = nat_le 97 byte && nat_le byte 122 || nat_le 65 byte && nat_le byte 90

abbrev pub is_digit : ℕ → Bool
is_digit byte = nat_le 48 byte && nat_le byte 57

-- each byte is a printable character of ASCII, so that it is all on one line; the last is a letter
-- or a digit, so that no stop or space is there
abbrev pub goes_on : List ℕ → Bool
goes_on [] = false
goes_on (byte ∷ []) = is_letter byte || is_digit byte
goes_on (byte ∷ more) = nat_le 32 byte && nat_le byte 126 && goes_on more

-- a phrase: it begins with a letter, and a line can go on behind it
abbrev pub is_phrase : List ℕ → Bool
is_phrase [] = false
is_phrase (byte ∷ more) = is_letter byte && goes_on (byte ∷ more)

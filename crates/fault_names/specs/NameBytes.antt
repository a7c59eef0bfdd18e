-- How a name of a file's own is said, whose bytes may be any.
use Rattle.std.specs.Prelude.{ℕ, List, [], ◌∷◌, ◌++◌, ◌+◌, ◌/◌, ◌%◌, ◌&&◌, codes, flat_map, nat_le, nat_lt, if◌then◌else◌}

-- a digit of 16
abbrev pub digit_said : ℕ → List ℕ
digit_said digit = if nat_lt digit 10 then (48 + digit) ∷ [] else (87 + digit) ∷ []

-- a printable character of ASCII as it is, another byte by its number
abbrev pub byte_said : ℕ → List ℕ
byte_said byte =
    if nat_le 33 byte && nat_le byte 126 then byte ∷ []
    else codes "\\x" ++ (digit_said (byte / 16) ++ digit_said (byte % 16))

abbrev pub name_said : List ℕ → List ℕ
name_said name = flat_map byte_said name

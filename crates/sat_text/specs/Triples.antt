-- The last three digits of numbers.
use Rattle.std.specs.Prelude.{◌≡◌, ℕ, ◌+◌, ◌/◌, ◌%◌, ◌<◌, List, [], ◌∷◌, get_or}
use Rattle.fpga_text.specs.Bytes.{Bytes}

-- the last three digits of a number, with zeros in front
abbrev pub last_three : ℕ → Bytes
last_three n = (48 + n / 100 % 10) ∷ (48 + n / 10 % 10) ∷ (48 + n % 10) ∷ []

-- at each number below 1,000 stand its three digits
abbrev pub AreTriples : List Bytes → Type 0
AreTriples rows = (n : ℕ) → n < 1000 → get_or rows n [] ≡ last_three n

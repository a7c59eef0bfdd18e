-- The digits of a number: the last three and those before them, and its sign.
use Rattle.std.proofs.Common.{◌≡◌, ℕ, ◌+◌, ◌/◌, ◌%◌, ◌^◌, ◌<◌, ◌≤◌, ◌++◌, ℤ, pos, negsuc, refl, append_assoc, arith, unsigned_abs}
use Rattle.std.specs.Fmt.{decimal, signed_decimal}
use Rattle.std.proofs.lemmas.Fmt.{decimal_step}
use Rattle.sat_text.specs.Printed.{sign_text}
use Rattle.sat_text.specs.Triples.{last_three}

-- the digits before the last three, and these
pub decimal-three : (n : ℕ) → 1000 ≤ n → n < 2 ^ 64
    → decimal n ≡ decimal (n / 1000) ++ last_three n
decimal-three n most fits =
    let hundreds : n / 10 / 10 ≡ n / 100 = omega arith in
    let thousands : n / 100 / 10 ≡ n / 1000 = omega arith in
    rw (
      decimal_step n (omega arith) fits,
      decimal_step (n / 10) (omega arith) (omega arith),
      hundreds,
      decimal_step (n / 100) (omega arith) (omega arith),
      thousands,
      append_assoc,
      append_assoc,
    ) refl

-- what is left of a number by a thousand has the same last digits
pub three-left : (n : ℕ) → last_three (n % 1000) ≡ last_three n
three-left n =
    let first : n % 1000 / 100 % 10 ≡ n / 100 % 10 = omega arith in
    let second : n % 1000 / 10 % 10 ≡ n / 10 % 10 = omega arith in
    let third : n % 1000 % 10 ≡ n % 10 = omega arith in
    rw (first, second, third) refl

-- the sign of a number, and the digits behind it
pub signed-parts : (z : ℤ) → sign_text z ++ decimal (unsigned_abs z) ≡ signed_decimal z
signed-parts (pos n) = refl
signed-parts (negsuc n) = refl

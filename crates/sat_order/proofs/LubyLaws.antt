-- Terms with other numbers.
use Rattle.std.proofs.Common.{◌≡◌, ◌+◌, ◌-◌, ◌*◌, ◌^◌, ◌/◌, ◌<◌, ◌≤◌, ℕ, zero, suc, arith, subst, sym, ap, ◌∙◌}
use Rattle.std.proofs.lemmas.Nat.{pow-add, pow_pos}
use Rattle.sat_order.specs.Luby.{IsLuby, whole, rest}

pub twice : (k : ℕ) → 2 ^ (k + 1) ≡ 2 * 2 ^ k
twice k = omega (arith, pow-add 2 k 1)

pub same-term : (k n half term : ℕ) → half ≡ 2 ^ k → half ≤ n → n + 1 < 2 * half →
    IsLuby (n - (half - 1)) term → IsLuby n term
same-term k n half term power low high is =
    let above : 1 ≤ half = omega (arith, low, high) in
    let back : k + 1 - 1 ≡ k = omega arith in
    let same : n - (half - 1) ≡ n - 2 ^ (k + 1 - 1) + 1 =
    rw (back, ← power) (omega (arith, low, above)) in
    rest (k + 1) n term (omega arith) (rw (back, ← power) low) (rw (twice k, ← power) high)
    (subst (λ (m : ℕ). IsLuby m term) same is)

pub last-term : (k n half : ℕ) → half ≡ 2 ^ k → n + 1 ≡ 2 * half → IsLuby n half
last-term k n half power is =
    let back : k + 1 - 1 ≡ k = omega arith in
    whole (k + 1) n half (omega arith) (rw (twice k, ← power) is) (rw back power)

-- half of a power of 2 above 1 is one
pub half-power : (k n : ℕ) → n ≡ 2 ^ k → 2 ≤ n → (l : ℕ) × (n / 2 ≡ 2 ^ l) × (2 * (n / 2) ≡ n)
half-power zero n power big = absurd (omega (arith, power, big))
half-power (suc k) n power big =
    let e : n ≡ 2 * 2 ^ k = power ∙ ap (λ m. 2 ^ m) (let s : suc k ≡ k + 1 = omega arith in s) ∙
    twice k in
    let f : n / 2 ≡ 2 ^ k = omega (arith, e) in
    (k, f, omega (arith, e, f))

-- a term is at least 1, and at most its number
pub term_some : (n term : ℕ) → IsLuby n term → 1 ≤ term
term_some _ _ (whole k n term some power is) = omega (arith, pow_pos (k - 1), is)
term_some _ _ (rest k n term some low high shorter) =
    term_some (n - 2 ^ (k - 1) + 1) term shorter

pub term_most : (n term : ℕ) → IsLuby n term → term ≤ n
term_most _ _ (whole k n term some power is) =
    let same : k - 1 + 1 ≡ k = omega (arith, some) in
    let double : 2 ^ k ≡ 2 * 2 ^ (k - 1) = ap (λ m. 2 ^ m) (sym same) ∙ twice (k - 1) in
    omega (arith, power, is, double, pow_pos (k - 1))
term_most _ _ (rest k n term some low high shorter) =
    let most = term_most (n - 2 ^ (k - 1) + 1) term shorter in
    omega (arith, most, low, pow_pos (k - 1))

-- The first variables of the slots of the level below.
use Rattle.std.proofs.Common.{◌≡◌, ℕ, suc, ◌+◌, ◌*◌, ◌<◌, ◌≤◌, List, [], ◌∷◌, ◌++◌, length, get_or, All, ap, inl, inr, ◌∙◌, arith}
use Rattle.std.proofs.Math.ListN.{get_or-append}
use Rattle.std.proofs.Math.Nat.{mul-le-mul_right, suc-mul}
use Rattle.std.proofs.lemmas.Bool.{cases_lt}
use Rattle.std.proofs.lemmas.List.{get_or-append-add, get_or_default}
use Rattle.sat_count.specs.Descending.{AreFirsts}
use Rattle.sat_count.specs.Firsts.{AreApart}
use Rattle.sat_count.proofs.GrowLemmas.{more-rows}

-- one slot more
pub firsts-more : (xs : List ℕ) (first tracks n x : ℕ) → length xs ≡ n
    → ((k : ℕ) → k < n → get_or xs k 0 ≡ first + k * tracks) → x ≡ first + n * tracks
    → (k : ℕ) → k < n + 1 → get_or (xs ++ x ∷ []) k 0 ≡ first + k * tracks
firsts-more xs first tracks n x count before last k low = elim (cases_lt k n) [
  | inl inside ↦
      (let e = get_or-append xs (x ∷ []) 0 k (omega (arith, inside, count)) in
      e ∙ before k inside)
  | inr not_inside ↦
      (let at : k ≡ length xs + 0 = omega (arith, low, not_inside, count) in
      let same : n ≡ k = omega (arith, low, not_inside) in
      ap (λ (m : ℕ). get_or (xs ++ x ∷ []) m 0) at
      ∙ get_or-append-add xs (x ∷ []) 0 0
      ∙ last
      ∙ ap (λ (m : ℕ). first + m * tracks) same)
]

-- their variables stand below what is behind all of them
pub firsts-below : (xs : List ℕ) (first tracks bound : ℕ) → length xs ≡ tracks + 1
    → AreFirsts first tracks xs → first + (tracks + 1) * tracks ≤ bound
    → All (λ f. f + tracks ≤ bound) xs
firsts-below xs first tracks bound count firsts few k d low =
    let at = get_or_default xs k d 0 low in
    let here = firsts k (omega (arith, low, count)) in
    let rows : k * tracks ≤ tracks * tracks =
    mul-le-mul_right tracks (omega (arith, low, count)) in
    let more : (tracks + 1) * tracks ≡ tracks * tracks + tracks = more-rows tracks tracks in
    omega (arith, at, here, rows, more, few)

-- and are different ones
pub firsts-apart : (xs : List ℕ) (first tracks : ℕ) → AreFirsts first tracks xs
    → AreApart tracks xs
firsts-apart xs first tracks firsts lower higher t u order low t_few u_few =
    let one = firsts lower (omega (arith, order, low)) in
    let two = firsts higher (omega (arith, low)) in
    let rows : suc lower * tracks ≤ higher * tracks = mul-le-mul_right tracks order in
    let more : suc lower * tracks ≡ lower * tracks + tracks = suc-mul lower tracks in
    omega (arith, one, two, rows, more, t_few)

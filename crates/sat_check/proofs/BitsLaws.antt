-- A row of bits with one of its words written.
use Rattle.std.proofs.Common.{zero, suc, [], ◌∷◌, ◌++◌, ◌≡◌, ◌≢◌, ◌==◌, ◌<◌, ◌/◌, ◌%◌, ◌*◌, ℕ, true, false, List, length, slice_index_or, set, ap, ◌∙◌, refl, arith}
use Rattle.std.specs.Int.{bit_at}
use Rattle.std.proofs.lemmas.Bool.{both_ways, eq-eqb, eqb-true}
use Rattle.std.proofs.lemmas.List.{get_or-set_same, get_or-set_other, get_or_default}
use Rattle.sat_check.specs.Bits.{is_set}

-- a word is read, whatever the default, and then written
module _ (words : List ℕ) (at old word : ℕ) (within : at < 64 * length words)
    (read : old ≡ slice_index_or words (at / 64) old) where
  inside : at / 64 < length words
  inside = omega (arith, within)

  pub written_here : (bit : ℕ) → bit_at word (at % 64) ≡ bit → is_set (set words (at / 64) word) at
      ≡ (bit == 1)
  written_here bit is = rw (get_or-set_same words (at / 64) word 0 inside, is) refl

  -- the bits of other words stay, and so do those of the word that are as before
  pub written_others : ((k : ℕ) → k < 64 → k ≢ at % 64 → bit_at word k ≡ bit_at old k) →
      (i : ℕ) → i ≢ at → is_set (set words (at / 64) word) i ≡ is_set words i
  written_others kept i other =
      elim (i / 64 == at / 64) as (λ b. (i / 64 == at / 64) ≡ b → is_set (set words (at / 64) word)
      i ≡ is_set words i) [
        | true ↦ λ is.
            let same : i / 64 ≡ at / 64 = eqb-true (i / 64) (at / 64) is in
            let was : old ≡ slice_index_or words (at / 64) 0 =
            read ∙ get_or_default words (at / 64) old 0 inside in
            rw (same, get_or-set_same words (at / 64) word 0 inside, ← was)
            (ap (λ n. n == 1) (kept (i % 64) (omega arith) (omega (arith, same, other))))
        | false ↦ λ is.
            ap (λ w. bit_at w (i % 64) == 1)
            (get_or-set_other words (at / 64) (i / 64) word 0
            (λ same. both_ways _ is (eq-eqb (i / 64) (at / 64) same)))
      ] refl

-- where a bit was taken away, what was clear is clear
pub stays_clear : (old new : List ℕ) (at : ℕ) → is_set new at ≡ false →
    ((i : ℕ) → i ≢ at → is_set new i ≡ is_set old i) → (i : ℕ) → is_set old i ≡ false → is_set new i
    ≡ false
stays_clear old new at here others i clear =
    elim (i == at) as (λ b. (i == at) ≡ b → is_set new i ≡ false) [
      | true ↦ λ is. let same : i ≡ at = eqb-true i at is in rw same here
      | false ↦ λ is. others i (λ same. both_ways _ is (eq-eqb i at same)) ∙ clear
    ] refl

-- a word without bits at the end sets none
pub longer_same : (words : List ℕ) (at : ℕ) → is_set (words ++ 0 ∷ []) at ≡ is_set words at
longer_same words at =
    ap (λ w. bit_at w (at % 64) == 1) (last words (at / 64))
  where
    last : (row : List ℕ) (i : ℕ) → slice_index_or (row ++ 0 ∷ []) i 0 ≡ slice_index_or row i 0
    last [] zero = refl
    last [] (suc i) = refl
    last (w ∷ row) zero = refl
    last (w ∷ row) (suc i) = last row i

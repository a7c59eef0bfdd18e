-- Some clauses of a list, and what stands before and behind them.
use Rattle.std.proofs.Common.{◌≡◌, ◌∙◌, ℕ, zero, suc, ◌<◌, ◌≤◌, ◌+◌, List, [], ◌∷◌, ◌++◌, take, drop, Some, refl, sym, ap, subst, add-one, arith}
use Rattle.std.proofs.lemmas.Grind.{flat_map-append}
use Rattle.std.specs.Prelude.{flat_map, slice_get}
use Rattle.desk_io.specs.Files.{Bytes}
use Rattle.desk_io.specs.ShelfState.{ShelfState, FailsToAppend}
use Rattle.desk_io.proofs.WritingLaws.{fails-longer}

module _ {T : Type 0} where
  -- none from one to the one before it
  pub between-none : (xs : List T) (i : ℕ) → drop i (take i xs) ≡ []
  between-none [] zero = refl
  between-none [] (suc i) = refl
  between-none (y ∷ ys) zero = refl
  between-none (y ∷ ys) (suc i) = between-none ys i

  -- the one at the first place, and then the others
  pub between-next : (xs : List T) (i behind : ℕ) (x : T) → slice_get xs i ≡ Some x → i < behind
      → drop i (take behind xs) ≡ x ∷ drop (suc i) (take behind xs)
  between-next [] i behind x at less = cc
  between-next (y ∷ ys) i zero x at less = absurd (omega (arith, less))
  between-next (y ∷ ys) zero (suc behind) x at less = let same : y ≡ x = cc in rw same refl
  between-next (y ∷ ys) (suc i) (suc behind) x at less =
      between-next ys i behind x at (omega (arith, less))

  -- the one at a place alone
  pub between-one : (xs : List T) (i : ℕ) (x : T) → slice_get xs i ≡ Some x
      → drop i (take (i + 1) xs) ≡ x ∷ []
  between-one xs i x at =
      let less : i < suc i = omega arith in
      rw add-one (between-next xs i (suc i) x at less
      ∙ ap (λ (ys : List T). x ∷ ys) (between-none xs (suc i)))

  -- those before, and then these
  pub front-between : (xs : List T) (i behind : ℕ) → i ≤ behind
      → take i xs ++ drop i (take behind xs) ≡ take behind xs
  front-between xs zero behind less = refl
  front-between xs (suc i) zero less = absurd (omega (arith, less))
  front-between [] (suc i) (suc behind) less = refl
  front-between (y ∷ ys) (suc i) (suc behind) less =
      ap (λ (zs : List T). y ∷ zs) (front-between ys i behind (omega (arith, less)))

  -- these, and then those behind
  pub between-rest : (xs : List T) (i behind : ℕ) → i ≤ behind
      → drop i (take behind xs) ++ drop behind xs ≡ drop i xs
  between-rest xs zero zero less = refl
  between-rest [] zero (suc behind) less = refl
  between-rest (y ∷ ys) zero (suc behind) less =
      ap (λ (zs : List T). y ∷ zs) (between-rest ys zero behind (omega arith))
  between-rest xs (suc i) zero less = absurd (omega (arith, less))
  between-rest [] (suc i) (suc behind) less = refl
  between-rest (y ∷ ys) (suc i) (suc behind) less = between-rest ys i behind (omega (arith, less))

  module _ (f : T → Bytes) (xs : List T) (i behind : ℕ) (less : i ≤ behind) where
    -- where the texts of these fail to be appended, those from the first on do
    pub rows-fail : {a c : ShelfState} (w : Bytes)
        → FailsToAppend a (w ++ flat_map f (drop i (take behind xs))) c
        → FailsToAppend a (w ++ flat_map f (drop i xs)) c
    rows-fail {a} {c} w fails =
        let these : List T = drop i (take behind xs) in
        let whole : flat_map f these ++ flat_map f (drop behind xs) ≡ flat_map f (drop i xs) =
        sym (flat_map-append f these (drop behind xs))
        ∙ ap (flat_map f) (between-rest xs i behind less) in
        subst (λ (t : Bytes). FailsToAppend a (w ++ t) c) whole
        (fails-longer w (flat_map f these) (flat_map f (drop behind xs)) fails)

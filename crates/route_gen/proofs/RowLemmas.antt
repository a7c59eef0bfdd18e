-- What is kept of rows that are made of the numbers of a range.
use Rattle.std.proofs.Common.{◌≡◌, ◌≢◌, ℕ, zero, suc, ◌+◌, ◌<◌, ◌≤◌, Bool, true, false, cond, Option, Some, None, List, [], ◌∷◌, ◌++◌, refl, ap, ◌∙◌, inl, inr, arith}
use Rattle.std.specs.Prelude.{filter, filter_map, flat_map, map, ◌&&◌}
use Rattle.std.specs.List.{cons_option, enumerate_from, list_any, range_with_len}
use Rattle.std.proofs.lemmas.Bool.{cases_eq}
use Rattle.std.proofs.lemmas.List.{append-nil}
use Rattle.std.proofs.lemmas.List.Elements.{filter-append}

-- what passes two tests, one after the other
pub filter-both : {T : Type 0} (p q : T → Bool) (xs : List T) →
    filter p (filter q xs) ≡ filter (λ x. q x && p x) xs
filter-both p q [] = refl
filter-both {T} p q (x ∷ xs) = grind (arith, (filter-both p q xs))

-- what passes of rows
pub filter-rows : {A B : Type 0} (p : B → Bool) (f : A → List B) (xs : List A) →
    filter p (flat_map f xs) ≡ flat_map (λ x. filter p (f x)) xs
filter-rows p f [] = refl
filter-rows {A} {B} p f (x ∷ xs) = grind (arith, filter-append, (filter-rows p f xs))

module _ {B : Type 0} (f : ℕ → List B) where
  -- where no number makes anything
  pub rows-empty : (a n : ℕ) → ((k : ℕ) → a ≤ k → k < a + n → f k ≡ []) →
      flat_map f (range_with_len a n) ≡ []
  rows-empty a zero none = refl
  rows-empty a (suc n) none =
      grind (arith, (rows-empty (a + 1) n (λ k low high. none k (omega arith) (omega arith))))

  -- where one number alone does
  pub rows-only : (a n k : ℕ) → a ≤ k → k < a + n →
      ((j : ℕ) → a ≤ j → j < a + n → j ≢ k → f j ≡ []) → flat_map f (range_with_len a n) ≡ f k
  rows-only a zero k low high none = absurd (omega arith)
  rows-only a (suc n) k low high none = elim (cases_eq a k) [
    | inl same ↦
        ap (λ (t : List B). f a ++ t) (rows-empty (a + 1) n
        (λ j above below. none j (omega arith) (omega arith) (λ e. omega (arith, e, same, above))))
        ∙ append-nil (f a) ∙ ap f same
    | inr other ↦
        ap (λ (t : List B). t ++ flat_map f (range_with_len (a + 1) n))
        (none a (omega arith) (omega arith) other)
        ∙ rows-only (a + 1) n k (omega (arith, other)) (omega arith)
        (λ j above below differs. none j (omega arith) (omega arith) differs)
  ]

module _ {T : Type 0} (p : T → Bool) (f : ℕ → Option T) where
  -- where nothing that is made passes
  pub kept-none : (a n : ℕ) →
      ((k : ℕ) (x : T) → a ≤ k → k < a + n → f k ≡ Some x → p x ≡ false) →
      filter p (filter_map f (range_with_len a n)) ≡ []
  kept-none a zero none = refl
  kept-none a (suc n) none =
      grind (arith, (kept-none (a + 1) n (λ k x low high. none k x (omega arith) (omega arith))))

  -- where what one number makes passes, and nothing else does
  pub kept-only : (a n k : ℕ) (y : T) → a ≤ k → k < a + n → f k ≡ Some y → p y ≡ true →
      ((j : ℕ) (x : T) → a ≤ j → j < a + n → j ≢ k → f j ≡ Some x → p x ≡ false) →
      filter p (filter_map f (range_with_len a n)) ≡ y ∷ []
  kept-only a zero k y low high there passes none = absurd (omega arith)
  kept-only a (suc n) k y low high there passes none = elim (cases_eq a k) [
    | inl same ↦
        (λ i. filter p (cons_option ((ap f same ∙ there) i) rest))
        ∙ (λ i. cond (passes i) (y ∷ filter p rest) (filter p rest))
        ∙ ap (λ (t : List T). y ∷ t) (kept-none (a + 1) n
        (λ j x above below. none j x (omega arith) (omega arith)
        (λ e. omega (arith, e, same, above))))
    | inr other ↦
        go (f a) refl other
        (kept-only (a + 1) n k y (omega (arith, other)) (omega arith) there passes
        (λ j x above below. none j x (omega arith) (omega arith)))
  ]
    where
      rest : List T
      rest = filter_map f (range_with_len (a + 1) n)

      go : (o : Option T) → f a ≡ o → a ≢ k → filter p rest ≡ y ∷ [] →
          filter p (cons_option o rest) ≡ y ∷ []
      go None is other later = later
      go (Some x) is other later =
          ap (λ (b : Bool). cond b (x ∷ filter p rest) (filter p rest))
          (none a x (omega arith) (omega arith) other is) ∙ later

  -- a search among what is made
  pub any-made : (a n : ℕ) →
      ((k : ℕ) (x : T) → a ≤ k → k < a + n → f k ≡ Some x → p x ≡ false) →
      list_any p (filter_map f (range_with_len a n)) ≡ false
  any-made a zero none = refl
  any-made a (suc n) none =
      grind (arith, (any-made (a + 1) n (λ k x low high. none k x (omega arith) (omega arith))))

-- elements that are made of the numbers of a range, with these numbers
pub enumerate-made : {T : Type 0} (f : ℕ → T) (a n : ℕ) →
    enumerate_from a (map f (range_with_len a n)) ≡ map (λ k. (k, f k)) (range_with_len a n)
enumerate-made f a zero = refl
enumerate-made {T} f a (suc n) = grind (arith, (enumerate-made f (a + 1) n))

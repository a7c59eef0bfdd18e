-- Rows of what the elements of a list make: where a test passes, and where all but one or two
-- numbers of a range make nothing.
use Rattle.std.proofs.Common.{◌≡◌, ◌≢◌, ◌⊎◌, ℕ, zero, suc, ◌+◌, ◌-◌, ◌<◌, ◌≤◌, Bool, true, false, cond, Option, Some, None, List, [], ◌∷◌, ◌++◌, refl, sym, ap, ◌∙◌, inl, inr, arith}
use Rattle.std.specs.Prelude.{◌==◌, filter, filter_map, flat_map, map}
use Rattle.std.specs.List.{cons_option, range_with_len}
use Rattle.std.specs.Option.{option_map_or, option_to_list}
use Rattle.std.proofs.lemmas.Bool.{cases_eq, cases_lt, eqb-false}
use Rattle.std.proofs.lemmas.Bool.Decides.{Decides-eqb}
use Rattle.std.proofs.lemmas.List.{append-nil, map-append}
use Rattle.std.proofs.lemmas.List.Elements.{filter-append}
use Rattle.list_laws.proofs.Members.{In, from_In-range}
use Rattle.list_laws.proofs.Ranges.{range-push}

-- the rows of the elements that pass
pub rows-filter : {A B : Type 0} (p : A → Bool) (f : A → List B) (xs : List A) →
    flat_map f (filter p xs) ≡ flat_map (λ x. cond (p x) (f x) []) xs
rows-filter p f [] = refl
rows-filter {A} {B} p f (x ∷ xs) = go (p x) (rows-filter p f xs)
  where
    go : (b : Bool) → flat_map f (filter p xs) ≡ flat_map (λ y. cond (p y) (f y) []) xs →
        flat_map f (cond b (x ∷ filter p xs) (filter p xs))
        ≡ cond b (f x) [] ++ flat_map (λ y. cond (p y) (f y) []) xs
    go true e = ap (λ (t : List B). f x ++ t) e
    go false e = e

-- what is made of some elements, as rows
pub rows-some : {A B : Type 0} (h : A → Option B) (xs : List A) →
    filter_map h xs ≡ flat_map (λ x. option_to_list (h x)) xs
rows-some h [] = refl
rows-some {A} {B} h (x ∷ xs) = go (h x) (rows-some h xs)
  where
    go : (o : Option B) → filter_map h xs ≡ flat_map (λ y. option_to_list (h y)) xs →
        cons_option o (filter_map h xs)
        ≡ option_to_list o ++ flat_map (λ y. option_to_list (h y)) xs
    go None e = e
    go (Some y) e = ap (λ (t : List B). y ∷ t) e

pub rows-none : {A B : Type 0} (f : A → List B) (xs : List A) → ((x : A) → In xs x → f x ≡ []) →
    flat_map f xs ≡ []
rows-none f [] h = refl
rows-none {A} {B} f (x ∷ xs) h =
    ap (λ (t : List B). t ++ flat_map f xs) (h x (inl refl))
    ∙ rows-none f xs (λ y i. h y (inr i))

-- a number is before or behind a range of none
beyond : (a k : ℕ) → (k < a) ⊎ (a + 0 ≤ k)
beyond a k = elim (cases_lt k a) [
  | inl below ↦ inl below
  | inr not_below ↦ inr (omega (arith, not_below))
]

-- a number that is not the next one is below it
below : (b c : ℕ) → c < b + 1 → b ≢ c → c < b
below b c low d = elim (cases_lt c b) [
  | inl less ↦ less
  | inr no_less ↦ absurd (d (omega (arith, low, no_less)))
]

-- where at most one number makes anything, and nothing beyond the range
pub rows-one : {B : Type 0} (f : ℕ → List B) (a n k : ℕ) →
    ((i : ℕ) → a ≤ i → i ≢ k → f i ≡ []) → ((k < a) ⊎ (a + n ≤ k) → f k ≡ []) →
    flat_map f (range_with_len a n) ≡ f k
rows-one f a zero k others out = sym (out (beyond a k))
rows-one {B} f a (suc n) k others out = elim (cases_eq a k) [
  | inl at ↦
      (let rest : flat_map f (range_with_len (a + 1) n) ≡ [] =
      rows-none f (range_with_len (a + 1) n) (λ i h.
      let low = (from_In-range (a + 1) n i h).0 in
      others i (omega (arith, low)) (λ e. absurd (omega (arith, low, at, e)))) in
      ap (λ (t : List B). f a ++ t) rest ∙ append-nil (f a) ∙ ap f at)
  | inr apart ↦
      (ap (λ (t : List B). t ++ flat_map f (range_with_len (a + 1) n))
      (others a (omega arith) apart)
      ∙ rows-one f (a + 1) n k (λ i low d. others i (omega (arith, low)) d) (λ o. elim o [
        | inl before ↦ out (inl (below a k before apart))
        | inr behind ↦ out (inr (omega (arith, behind)))
      ]))
]

-- where at most two numbers next to each other make anything, and nothing beyond the range
pub rows-two : {B : Type 0} (f : ℕ → List B) (a n k : ℕ) →
    ((i : ℕ) → a ≤ i → i ≢ k → i ≢ k + 1 → f i ≡ []) →
    ((k < a) ⊎ (a + n ≤ k) → f k ≡ []) →
    ((k + 1 < a) ⊎ (a + n ≤ k + 1) → f (k + 1) ≡ []) →
    flat_map f (range_with_len a n) ≡ f k ++ f (k + 1)
rows-two f a zero k others first second =
    let low = first (beyond a k) in let high = second (beyond a (k + 1)) in
    λ i. sym low i ++ sym high i
rows-two {B} f a (suc n) k others first second = elim (cases_eq a k) [
  | inl at ↦
      (let rest = rows-one f (a + 1) n (k + 1) (λ i low d.
      others i (omega (arith, low)) (λ e. absurd (omega (arith, low, at, e))) d)
      (λ o. second (elim o [
        | inl before ↦ absurd (omega (arith, before, at))
        | inr behind ↦ inr (omega (arith, behind))
      ])) in
      λ i. ap f at i ++ rest i)
  | inr apart ↦ (elim (cases_eq a (k + 1)) [
    | inl next ↦
        (let low : f k ≡ [] = first (inl (omega (arith, next))) in
        let rest : flat_map f (range_with_len (a + 1) n) ≡ [] =
        rows-none f (range_with_len (a + 1) n) (λ i h.
        let above = (from_In-range (a + 1) n i h).0 in
        others i (omega (arith, above)) (λ e. absurd (omega (arith, above, next, e)))
        (λ e. absurd (omega (arith, above, next, e)))) in
        ap (λ (t : List B). f a ++ t) rest ∙ append-nil (f a) ∙ ap f next
        ∙ ap (λ (t : List B). t ++ f (k + 1)) (sym low))
    | inr further ↦
        (ap (λ (t : List B). t ++ flat_map f (range_with_len (a + 1) n))
        (others a (omega arith) apart further)
        ∙ rows-two f (a + 1) n k (λ i low d. others i (omega (arith, low)) d) (λ o. elim o [
          | inl before ↦ first (inl (below a k before apart))
          | inr behind ↦ first (inr (omega (arith, behind)))
        ]) (λ o. elim o [
          | inl before ↦ second (inl (below a (k + 1) before further))
          | inr behind ↦ second (inr (omega (arith, behind)))
        ]))
  ])
]

-- a number of a range is not beyond it
pub inside : {A : Type 0} (a n k : ℕ) → a ≤ k → k < a + n → (k < a) ⊎ (a + n ≤ k) → A
inside a n k low high o = elim o [
  | inl before ↦ absurd (omega (arith, before, low))
  | inr behind ↦ absurd (omega (arith, behind, high))
]

-- where at most the element of a number and that of the number before it make anything
pub rows-beside : {A B : Type 0} (f : A → List B) (element : ℕ → A) (n k : ℕ) →
    ((i : ℕ) → i ≢ k → i + 1 ≢ k → f (element i) ≡ []) →
    ((i : ℕ) → (i < 0) ⊎ (0 + n ≤ i) → f (element i) ≡ []) →
    flat_map (λ i. f (element i)) (range_with_len 0 n)
    ≡ option_map_or f (cond (k == 0) None (Some (element (k - 1)))) [] ++ f (element k)
rows-beside f element n k others out = go (k == 0) refl
  where
    go : (b : Bool) → (k == 0) ≡ b → flat_map (λ i. f (element i)) (range_with_len 0 n)
        ≡ option_map_or f (cond b None (Some (element (k - 1)))) [] ++ f (element k)
    go true e = let first : k ≡ 0 = (Decides-eqb k 0).0 e in
        rows-one (λ i. f (element i)) 0 n k
        (λ i low d. others i d (λ under. absurd (omega (arith, under, first)))) (out k)
    go false e = let some = eqb-false k 0 e in let next : k - 1 + 1 ≡ k = omega arith in
        rows-two (λ i. f (element i)) 0 n (k - 1)
        (λ i low d after. others i (λ same. after (same ∙ sym next))
        (λ under. d (omega (arith, under))))
        (out (k - 1)) (out (k - 1 + 1))
        ∙ ap (λ (i : ℕ). f (element (k - 1)) ++ f (element i)) next

-- the numbers up to one more that pass, changed
pub kept-push : {B : Type 0} (f : ℕ → B) (p : ℕ → Bool) (n : ℕ) →
    map f (filter p (range_with_len 0 (n + 1)))
    ≡ map f (filter p (range_with_len 0 n)) ++ cond (p n) (f n ∷ []) []
kept-push {B} f p n =
    let more : n + 1 ≡ suc n = omega arith in
    let last_is : 0 + n ≡ n = omega arith in
    let whole : range_with_len 0 (n + 1) ≡ range_with_len 0 n ++ n ∷ [] =
    ap (range_with_len 0) more ∙ range-push 0 n
    ∙ ap (λ (m : ℕ). range_with_len 0 n ++ m ∷ []) last_is in
    ap (λ (t : List ℕ). map f (filter p t)) whole
    ∙ ap (map f) (filter-append p (range_with_len 0 n) (n ∷ []))
    ∙ map-append f (filter p (range_with_len 0 n)) (filter p (n ∷ []))
    ∙ ap (λ (t : List B). map f (filter p (range_with_len 0 n)) ++ t) (last (p n))
  where
    last : (b : Bool) → map f (cond b (n ∷ []) []) ≡ cond b (f n ∷ []) []
    last true = refl
    last false = refl

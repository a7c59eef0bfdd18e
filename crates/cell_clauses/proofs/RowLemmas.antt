-- Rows of which each element has its partner, and rows of nets that rise.
use Rattle.std.proofs.Common.{◌≡◌, ◌≢◌, ℕ, zero, suc, ◌+◌, ◌<◌, Bool, true, false, List, [], ◌∷◌, ◌++◌, Option, None, Some, length, get_or, refl, sym, ap, ◌∙◌, subst, inl, inr, arith, All, AllPairs}
use Rattle.std.specs.Prelude.{filter_map, if◌then◌else◌, map, slice_get, zip, ⊤}
use Rattle.std.specs.List.{cons_option, range_with_len}
use Rattle.std.proofs.lemmas.List.{length-map}
use Rattle.list_laws.proofs.Members.{In, In-all, In-append_cases, In-map, all-from_In, contains-In, from_In-filter_map, from_In-map, from_In-range}
use Rattle.list_laws.proofs.Places.{get-In}

-- ---- what holds of each

module _ {A : Type 0} (P : A → Type 0) where
  pub all-none : All P []
  all-none = all-from_In P [] (λ x i. absurd i)

  pub all-more : (x : A) (xs : List A) → P x → All P xs → All P (x ∷ xs)
  all-more x xs h g = all-from_In P (x ∷ xs) (λ y i. elim i [
    | inl e ↦ subst P e h
    | inr t ↦ In-all P xs y g t
  ])

  pub all-one : (x : A) → P x → All P (x ∷ [])
  all-one x h = all-more x [] h all-none

  pub all-both : (xs ys : List A) → All P xs → All P ys → All P (xs ++ ys)
  all-both xs ys h g = all-from_In P (xs ++ ys) (λ x i. elim (In-append_cases xs ys x i) [
    | inl j ↦ In-all P xs x h j
    | inr j ↦ In-all P ys x g j
  ])

  pub all-if : (t : Bool) (xs : List A) → (t ≡ true → All P xs) → All P (if t then xs else [])
  all-if true xs h = h refl
  all-if false xs h = all-none

-- ---- partners

-- as many elements, each of which goes with the one at its place
module _ {A B : Type 0} (Goes : A → B → Type 0) where
  abbrev pub AreAligned : List A → List B → Type 0
  AreAligned [] [] = ⊤
  AreAligned [] (y ∷ ys) = ⊥
  AreAligned (x ∷ xs) [] = ⊥
  AreAligned (x ∷ xs) (y ∷ ys) = Goes x y × AreAligned xs ys

  pub aligned-both : (xs : List A) (ys : List B) (us : List A) (vs : List B) → AreAligned xs ys
      → AreAligned us vs → AreAligned (xs ++ us) (ys ++ vs)
  aligned-both [] [] us vs h g = g
  aligned-both [] (y ∷ ys) us vs h g = absurd h
  aligned-both (x ∷ xs) [] us vs h g = absurd h
  aligned-both (x ∷ xs) (y ∷ ys) us vs h g = (h.0, aligned-both xs ys us vs h.1 g)

  pub aligned-at : (xs : List A) (ys : List B) (k : ℕ) (x : A) → AreAligned xs ys
      → slice_get xs k ≡ Some x → (y : B) × (slice_get ys k ≡ Some y) × Goes x y
  aligned-at [] ys k x h e = absurd (let n : None ≡ Some x = e in cc)
  aligned-at (a ∷ xs) [] k x h e = absurd h
  aligned-at (a ∷ xs) (b ∷ ys) zero x h e =
      let same : a ≡ x = cc in (b, refl, subst (λ (z : A). Goes z b) same h.0)
  aligned-at (a ∷ xs) (b ∷ ys) (suc k) x h e = aligned-at xs ys k x h.1 e

  pub aligned-maps : {C D : Type 0} (make : C → A) (mark : D → B) (cs : List C) (ds : List D)
      → length ds ≡ length cs
      → ((c : C) (d : D) → In (zip cs ds) (c, d) → Goes (make c) (mark d))
      → AreAligned (map make cs) (map mark ds)
  aligned-maps make mark [] [] e h = tt
  aligned-maps make mark [] (d ∷ ds) e h = absurd (omega (arith, e))
  aligned-maps make mark (c ∷ cs) [] e h = absurd (omega (arith, e))
  aligned-maps make mark (c ∷ cs) (d ∷ ds) e h = (
    h c d (inl refl),
    aligned-maps make mark cs ds (omega (arith, e)) (λ x y i. h x y (inr i)),
  )

-- of two rows of one length, an element of the second has its partner
pub partner-of : {A B : Type 0} (xs : List A) (ys : List B) (y : B) → length ys ≡ length xs
    → In ys y → (x : A) × In (zip xs ys) (x, y)
partner-of xs [] y e i = absurd i
partner-of [] (b ∷ ys) y e i = absurd (omega (arith, e))
partner-of {A} {B} (a ∷ xs) (b ∷ ys) y e i = elim i [
  | inl f ↦ (a, inl (ap (λ (c : B). (a, c)) f))
  | inr t ↦ let r = partner-of xs ys y (omega (arith, e)) t in (r.0, inr r.1)
]

-- and where the first has an element, so has the second
pub some-of : {A B : Type 0} (xs : List A) (ys : List B) (x : A) → length ys ≡ length xs → In xs x
    → (y : B) × In ys y
some-of [] ys x e i = absurd i
some-of (a ∷ xs) [] x e i = absurd (omega (arith, e))
some-of (a ∷ xs) (b ∷ ys) x e i = (b, inl refl)

-- ---- rows that rise by a number

-- what stands at a place within
pub place-at : {A : Type 0} (xs : List A) (k : ℕ) → k < length xs
    → (x : A) × (slice_get xs k ≡ Some x)
place-at [] k h = absurd (omega (arith, h))
place-at (x ∷ xs) zero h = (x, refl)
place-at (x ∷ xs) (suc k) h = place-at xs k (omega (arith, h))

module _ {A : Type 0} (number : A → ℕ) where
  get-map-at : (xs : List A) (k : ℕ) (x : A) (d : ℕ) → slice_get xs k ≡ Some x
      → get_or (map number xs) k d ≡ number x
  get-map-at [] k x d e = absurd (let n : None ≡ Some x = e in cc)
  get-map-at (y ∷ ys) zero x d e = let same : y ≡ x = cc in ap number same
  get-map-at (y ∷ ys) (suc k) x d e = get-map-at ys k x d e

  abbrev pub IsRising : List A → Type 0
  IsRising [] = ⊤
  IsRising (x ∷ xs) = ((y : A) → In xs y → number x < number y) × IsRising xs

  pub rising-at : (xs : List A) (i j : ℕ) (x y : A) → IsRising xs → i < j
      → slice_get xs i ≡ Some x → slice_get xs j ≡ Some y → number x < number y
  rising-at [] i j x y h b e f = absurd (let n : None ≡ Some x = e in cc)
  rising-at (a ∷ xs) zero zero x y h b e f = absurd (omega (arith, b))
  rising-at (a ∷ xs) zero (suc j) x y h b e f =
      let same : a ≡ x = cc in
      subst (λ (z : A). number z < number y) same (h.0 y (get-In xs j y f))
  rising-at (a ∷ xs) (suc i) zero x y h b e f = absurd (omega (arith, b))
  rising-at (a ∷ xs) (suc i) (suc j) x y h b e f =
      rising-at xs i j x y h.1 (omega (arith, b)) e f

  -- the numbers of such a row differ
  pub rising-differ : (xs : List A) → IsRising xs → AllPairs (λ a b. a ≢ b) (map number xs)
  rising-differ xs h = λ i j d before low.
      let count = length-map xs number in
      let high : j < length xs = omega (arith, low, count) in
      let first = place-at xs i (omega (arith, before, high)) in
      let second = place-at xs j high in
      let rise = rising-at xs i j first.0 second.0 h before first.1 second.1 in
      λ e.
      let one : get_or (map number xs) i d ≡ number first.0 = get-map-at xs i first.0 d first.1 in
      let two : get_or (map number xs) j d ≡ number second.0 = get-map-at xs j second.0 d second.1 in
      absurd (let same : number first.0 ≡ number second.0 = sym one ∙ e ∙ two in
      omega (arith, rise, same))

  -- what is made of the numbers of a range
  module _ (make : ℕ → Option A) (own : (n : ℕ) (x : A) → make n ≡ Some x → number x ≡ n) where
    pub made-rising : (a n : ℕ) → IsRising (filter_map make (range_with_len a n))
    made-rising a zero = tt
    made-rising a (suc n) = go (make a) refl (made-rising (a + 1) n)
      where
        go : (o : Option A) → make a ≡ o
            → IsRising (filter_map make (range_with_len (a + 1) n))
            → IsRising (cons_option o (filter_map make (range_with_len (a + 1) n)))
        go None e rest = rest
        go (Some x) e rest = (
          (λ y i.
              let from = from_In-filter_map make (range_with_len (a + 1) n) y i in
              let low = from_In-range (a + 1) n from.0 from.1 in
              omega (arith, low.0, own a x e, own from.0 y from.2)),
          rest,
        )

-- ---- rows of which each two differ

module _ {A : Type 0} (Differ : A → A → Type 0) where
  abbrev pub AreApart : List A → Type 0
  AreApart [] = ⊤
  AreApart (x ∷ xs) = ((y : A) → In xs y → Differ x y) × AreApart xs

  pub apart-both : (xs ys : List A) → AreApart xs → AreApart ys
      → ((x y : A) → In xs x → In ys y → Differ x y) → AreApart (xs ++ ys)
  apart-both [] ys h g d = g
  apart-both (x ∷ xs) ys h g d = (
    (λ y i. elim (In-append_cases xs ys y i) [
      | inl j ↦ h.0 y j
      | inr j ↦ d x y (inl refl) j
    ]),
    apart-both xs ys h.1 g (λ u v i j. d u v (inr i) j),
  )

  pub apart-at : (xs : List A) (i j : ℕ) (x y : A) → AreApart xs → i < j
      → slice_get xs i ≡ Some x → slice_get xs j ≡ Some y → Differ x y
  apart-at [] i j x y h b e f = absurd (let n : None ≡ Some x = e in cc)
  apart-at (a ∷ xs) zero zero x y h b e f = absurd (omega (arith, b))
  apart-at (a ∷ xs) zero (suc j) x y h b e f =
      let same : a ≡ x = cc in
      subst (λ (z : A). Differ z y) same (h.0 y (get-In xs j y f))
  apart-at (a ∷ xs) (suc i) zero x y h b e f = absurd (omega (arith, b))
  apart-at (a ∷ xs) (suc i) (suc j) x y h b e f =
      apart-at xs i j x y h.1 (omega (arith, b)) e f

  -- what is made of elements whose keys differ
  pub apart-map : {C K : Type 0} (key : C → K) (make : C → A) (cs : List C)
      → AllPairs (λ p q. p ≢ q) (map key cs)
      → ((c d : C) → key c ≢ key d → Differ (make c) (make d)) → AreApart (map make cs)
  apart-map key make [] h g = tt
  apart-map key make (c ∷ cs) h g = (
    (λ y i.
        let from = from_In-map make cs y i in
        let place = contains-In (map key cs) (key from.0) (In-map key cs from.0 from.1) in
        subst (λ (z : A). Differ (make c) z) from.2
        (g c from.0
        (λ e. h 0 (suc place.0) (key from.0) (omega arith) (omega (arith, place.1))
        (e ∙ sym place.2)))),
    apart-map key make cs
        (λ i j d before low. h (suc i) (suc j) d (omega (arith, before)) (omega (arith, low))) g,
  )

  -- elements that differ whatever they are
  pub apart-any : {C : Type 0} (make : C → A) (cs : List C)
      → ((c d : C) → Differ (make c) (make d)) → AreApart (map make cs)
  apart-any make [] g = tt
  apart-any make (c ∷ cs) g = (
    (λ y i.
        let from = from_In-map make cs y i in
        subst (λ (z : A). Differ (make c) z) from.2 (g c from.0)),
    apart-any make cs g,
  )

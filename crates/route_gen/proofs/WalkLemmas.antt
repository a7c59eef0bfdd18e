-- What holds at each place of a list, with what stands before it and behind it.
use Rattle.std.proofs.Common.{◌≡◌, ◌⊎◌, ℕ, zero, suc, ◌+◌, ◌<◌, ◌≤◌, Bool, false, Option, Some, List, [], ◌∷◌, ◌++◌, length, refl, ap, subst, ◌∙◌, inl, inr, arith}
use Rattle.std.specs.Prelude.{⊤, map, slice_get, ◌||◌}
use Rattle.std.specs.List.{AllByRecursion, last_or, list_any, range_with_len}
use Rattle.fpga_types.proofs.FitLemmas.{Place, with_first, place-in}
use Rattle.fpga_types.specs.Fit.{splits}
use Rattle.list_laws.proofs.Members.{In, from_In-map}

module _ {T : Type 0} where
  -- each element may stand behind what stands before it
  abbrev pub Linked : (Option T → T → Type 0) → Option T → List T → Type 0
  Linked R o [] = ⊤
  Linked R o (x ∷ xs) = R o x × Linked R (Some x) xs

  pub linked-place : (R : Option T → T → Type 0) (o : Option T) (xs : List T) (s : Place T) →
      Linked R o xs → In (splits xs) s → R (last_or o s.0) s.1
  linked-place R o [] s linked i = absurd i
  linked-place R o (x ∷ xs) s linked i = elim i [
    | inl first ↦ subst (λ (t : Place T). R (last_or o t.0) t.1) first linked.0
    | inr later ↦
        let r = from_In-map (with_first x) (splits xs) s later in
        subst (λ (t : Place T). R (last_or o t.0) t.1) r.2
        (linked-place R (Some x) xs r.0 linked.1 r.1)
  ]

  pub linked-joined : (R : Option T → T → Type 0) (o : Option T) (xs ys : List T) →
      Linked R o xs → Linked R (last_or o xs) ys → Linked R o (xs ++ ys)
  linked-joined R o [] ys front back = back
  linked-joined R o (x ∷ xs) ys front back =
      (front.0, linked-joined R (Some x) xs ys front.1 back)

  -- what is made of the numbers of a range
  pub linked-made : (R : Option T → T → Type 0) (f : ℕ → T) (o : Option T) (a n : ℕ) → R o (f a) →
      ((k : ℕ) → a ≤ k → k + 1 < a + n → R (Some (f k)) (f (k + 1))) →
      Linked R o (map f (range_with_len a n))
  linked-made R f o a zero first next = tt
  linked-made R f o a (suc zero) first next = (first, tt)
  linked-made R f o a (suc (suc n)) first next = (
    first,
    linked-made R f (Some (f a)) (a + 1) (suc n) (next a (omega arith) (omega arith))
        (λ k low high. next k (omega arith) (omega arith)),
  )

  pub last-made : (f : ℕ → T) (o : Option T) (a n : ℕ) →
      last_or o (map f (range_with_len a (n + 1))) ≡ Some (f (a + n))
  last-made f o a zero = let e : a ≡ a + 0 = omega arith in λ i. Some (f (e i))
  last-made f o a (suc n) = grind (arith, (last-made f (Some (f a)) (a + 1) n))

  pub last-joined : (o : Option T) (xs ys : List T) →
      last_or o (xs ++ ys) ≡ last_or (last_or o xs) ys
  last-joined o [] ys = refl
  last-joined o (x ∷ xs) ys = last-joined (Some x) xs ys

  -- an element does not equal an earlier one
  abbrev pub Apart : (T → T → Bool) → List T → Type 0
  Apart same [] = ⊤
  Apart same (x ∷ xs) = AllByRecursion (λ y. same y x ≡ false) xs × Apart same xs

  pub in-all : (P : T → Type 0) (xs : List T) (x : T) → AllByRecursion P xs → In xs x → P x
  in-all P [] x all i = absurd i
  in-all P (y ∷ ys) x all i = elim i [
    | inl same ↦ subst P same all.0
    | inr later ↦ in-all P ys x all.1 later
  ]

  pub apart-place : (same : T → T → Bool) (xs : List T) (s : Place T) → Apart same xs →
      In (splits xs) s → list_any (same s.1) s.0 ≡ false
  apart-place same [] s apart i = absurd i
  apart-place same (x ∷ xs) s apart i = elim i [
    | inl first ↦ subst (λ (t : Place T). list_any (same t.1) t.0 ≡ false) first refl
    | inr later ↦
        let r = from_In-map (with_first x) (splits xs) s later in
        subst (λ (t : Place T). list_any (same t.1) t.0 ≡ false) r.2
        (ap (λ (b : Bool). b || list_any (same r.0.1) r.0.0)
        (in-all (λ y. same y x ≡ false) xs r.0.1 apart.0 (place-in xs r.0 r.1))
        ∙ apart-place same xs r.0 apart.1 r.1)
  ]

  pub apart-joined : (same : T → T → Bool) (xs ys : List T) → Apart same xs → Apart same ys →
      AllByRecursion (λ x. AllByRecursion (λ y. same y x ≡ false) ys) xs →
      Apart same (xs ++ ys)
  apart-joined same [] ys front back across = back
  apart-joined same (x ∷ xs) ys front back across =
      (both xs front.0, apart-joined same xs ys front.1 back across.1)
    where
      both : (zs : List T) → AllByRecursion (λ y. same y x ≡ false) zs →
          AllByRecursion (λ y. same y x ≡ false) (zs ++ ys)
      both [] all = across.0
      both (z ∷ zs) all = (all.0, both zs all.1)

  pub apart-made : (same : T → T → Bool) (f : ℕ → T) (a n : ℕ) →
      ((j k : ℕ) → j < k → k < a + n → same (f k) (f j) ≡ false) →
      Apart same (map f (range_with_len a n))
  apart-made same f a zero apart = tt
  apart-made same f a (suc n) apart = (
    made (a + 1) n (omega arith) (omega arith),
    apart-made same f (a + 1) n (λ j k less under. apart j k less (omega arith)),
  )
    where
      made : (b m : ℕ) → a < b → b + m ≤ a + suc n →
          AllByRecursion (λ y. same y (f a) ≡ false) (map f (range_with_len b m))
      made b zero above within = tt
      made b (suc m) above within =
          (apart a b above (omega arith), made (b + 1) m (omega arith) (omega arith))

  -- the last place of a list is that of its last element
  pub last-place : (xs : List T) (z : T) (s : Place T) → In (splits (xs ++ z ∷ [])) s →
      (0 < length s.2) ⊎ ((s.1 ≡ z) × (s.2 ≡ []))
  last-place [] z s i = grind (arith, Place)
  last-place (x ∷ xs) z s i = elim i [
    | inl first ↦ inl (subst (λ (t : Place T). 0 < length t.2) first (some xs))
    | inr later ↦
        let r = from_In-map (with_first x) (splits (xs ++ z ∷ [])) s later in
        subst (λ (t : Place T). (0 < length t.2) ⊎ ((t.1 ≡ z) × (t.2 ≡ []))) r.2
        (last-place xs z r.0 r.1)
  ]
    where
      some : (ys : List T) → 0 < length (ys ++ z ∷ [])
      some [] = omega arith
      some (y ∷ ys) = omega arith

-- an element that stands before a place
pub record StandsBefore {T : Type 0} (xs : List T) (place : ℕ) (y : T) : Type 0 where
  pub at : ℕ
  pub below : at < place
  pub there : slice_get xs at ≡ Some y

-- a place by its number
pub record IsAt {T : Type 0} (xs : List T) (s : Place T) : Type 0 where
  pub place : ℕ
  pub here : slice_get xs place ≡ Some s.1
  pub before : (y : T) → In s.0 y → StandsBefore xs place y

pub at-place : {T : Type 0} (xs : List T) (s : Place T) → In (splits xs) s → IsAt xs s
at-place [] s i = absurd i
at-place {T} (x ∷ xs) s i = elim i [
  | inl first ↦ subst (λ (t : Place T). IsAt (x ∷ xs) t) first
      (record { place = 0; here = refl; before = λ y none. absurd none })
  | inr later ↦
      let r = from_In-map (with_first x) (splits xs) s later in
      let at = at-place xs r.0 r.1 in
      subst (λ (t : Place T). IsAt (x ∷ xs) t) r.2 (record {
        place = suc at.place;
        here = at.here;
        before = λ y j. elim j [
          | inl same ↦ record { at = 0; below = omega arith; there = ap (λ (z : T). Some z) same }
          | inr more ↦
              let b = at.before y more in
              record { at = suc b.at; below = omega (arith, b.below); there = b.there }
        ];
      })
]

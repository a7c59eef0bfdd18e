-- The different literals of a clause whose literals stand by their variables.
use Rattle.std.proofs.Common.{inl, inr, ◌⊎◌, ◌≡◌, ◌≢◌, ◌<◌, ◌≤◌, ◌-◌, ℕ, suc, Bool, true, false, not, List, [], ◌∷◌, ◌++◌, length, get_or, Some, slice_get, Contains, All, AllPairs, refl, sym, ap, ◌∙◌, subst, arith}
use Rattle.std.specs.Ordering.{int_eq}
use Rattle.std.proofs.lemmas.Bool.{both_ways, cases_eq}
use Rattle.std.proofs.lemmas.Bool.Decides.{Decides-int_eq}
use Rattle.std.proofs.lemmas.List.Elements.{All-contains, All-head, All-nil, All-push, All-tail, All-weaker, Contains-append_left, Contains-get_or, Contains-push}
use Rattle.std.proofs.lemmas.List.Folds.{Any-from_list_any, list_any-from_Any}
use Rattle.std.proofs.lemmas.List.Kept.{AllPairs-cons}
use Rattle.std.proofs.lemmas.Option.{get_or_from_slice_get, slice_get-get_or, slice_get_within}
use Rattle.std.specs.List.Sorted.{IsNonDecreasingBy}
use Rattle.list_laws.proofs.Places.{get-cases}
use Rattle.sat_clause.specs.declared.literal.Lit.{Lit}
use Rattle.sat_clause.specs.Learned.{SameLiterals}
use Rattle.sat_clause.specs.Literal.{Clause, is_among, lit, negation, variable}
use Rattle.sat_clause.proofs.LiteralLaws.{among_contains, contains_among, same_variable}
use Rattle.sat_core.specs.Kept.{HasOnce, IsDistinct, is_always_true}

-- a relation of each two elements, with one more at the end
pub pairs_push : {X : Type 0} (R : X → X → Type 0) (xs : List X) (x : X) → AllPairs R xs → All
    (λ y. R y x) xs →
    AllPairs R (xs ++ x ∷ [])
pairs_push R [] x pairs all = AllPairs-cons R x [] (All-nil (R x)) pairs
pairs_push R (y ∷ xs) x pairs all =
    AllPairs-cons R y (xs ++ x ∷ [])
    (All-push (R y) xs x (λ k d within. pairs 0 (suc k) d (omega arith) (omega arith))
    (All-head (λ z. R z x) y xs all))
    (pairs_push R xs x (λ i j d below within. pairs (suc i) (suc j) d (omega arith) (omega arith))
    (All-tail (λ z. R z x) y xs all))

-- the kept literals are the first i ones, and their variables rise
pub record HasSeen (sorted kept : Clause) (i : ℕ) : Type 0 where
  pub inside : (x : Lit) → Contains kept x → (k : ℕ) × (k < i) × (slice_get sorted k ≡ Some x)
  pub whole : (k : ℕ) (x : Lit) → k < i → slice_get sorted k ≡ Some x → Contains kept x
  pub rising : AllPairs (λ a b. variable a < variable b) kept

pub seen_start : (sorted : Clause) → HasSeen sorted [] 0
seen_start sorted = record {
  inside = λ x has. absurd (omega (arith, has.1));
  whole = λ k x below at. absurd (omega (arith, below));
  rising = λ i j d below within. absurd (omega (arith, within));
}

-- where the last one's variable is below that of a literal, so are all
all_below : (kept : Clause) (l : Lit) → AllPairs (λ a b. variable a < variable b) kept →
    ((m : Lit) → slice_get kept (length kept - 1) ≡ Some m → variable m < variable l) → All
    (λ x. variable x < variable l) kept
all_below kept l rising last k d within =
    let n : ℕ = length kept - 1 in
    let inside : n < length kept = omega (arith, within) in
    let top : variable (get_or kept n d) < variable l = last (get_or kept n d)
    (slice_get-get_or kept n d inside) in
    elim (cases_eq k n) [
      | inl same ↦ subst (λ (j : ℕ). variable (get_or kept j d) < variable l) (sym same) top
      | inr other ↦
          let under : k < n = omega (arith, within, other) in
          let step = rising k n d under inside in omega (arith, step, top)
    ]

module _ {sorted kept : Clause} {i : ℕ} {l : Lit} (seen : HasSeen sorted kept i)
    (at : slice_get sorted i ≡ Some l) where
  -- the next literal is kept where its variable is above that of the last
  pub seen_push : (now : Clause) → now ≡ kept ++ l ∷ [] →
      ((m : Lit) → slice_get kept (length kept - 1) ≡ Some m → variable m < variable l) → HasSeen
      sorted now (suc i)
  seen_push now is last = rw is (record {
    inside = λ x has. elim (by x has) [
      | inl same ↦ (i, omega arith, at ∙ ap Some same)
      | inr earlier ↦ let old = seen.inside x earlier in (old.0, omega (arith, old.1), old.2)
    ];
    whole = λ k x below there. elim (cases_eq k i) [
      | inl same ↦
          let one : l ≡ x = (let both : Some l ≡ Some x = sym at ∙ ap (slice_get sorted) (sym same)
          ∙ there in cc) in
          subst (Contains (kept ++ l ∷ [])) one (Contains-push kept l)
      | inr other ↦ Contains-append_left kept (l ∷ []) x
          (seen.whole k x (omega (arith, below, other)) there)
    ];
    rising = pairs_push (λ a b. variable a < variable b) kept l seen.rising
        (all_below kept l seen.rising last);
  })
    where
      by : (x : Lit) → Contains (kept ++ l ∷ []) x → (l ≡ x) ⊎ Contains kept x
      by x (k, within, is_x) =
          let at_k = slice_get-get_or (kept ++ l ∷ []) k x within ∙ ap Some is_x in
          elim (get-cases kept l x k at_k) [
            | inl same ↦ inl same.1
            | inr there ↦ inr (
              k,
              slice_get_within kept k x there,
              get_or_from_slice_get kept k x x
                  there,
            )
          ]

  -- and left out where it stands already
  pub seen_skip : Contains kept l → HasSeen sorted kept (suc i)
  seen_skip has = record {
    inside = λ x kept_x. let old = seen.inside x kept_x in (old.0, omega (arith, old.1), old.2);
    whole = λ k x below there. elim (cases_eq k i) [
      | inl same ↦
          let one : l ≡ x = (let both : Some l ≡ Some x = sym at ∙ ap (slice_get sorted) (sym same)
          ∙ there in cc) in
          subst (Contains kept) one has
      | inr other ↦ seen.whole k x (omega (arith, below, other)) there
    ];
    rising = seen.rising;
  }

  -- of the last one and another literal of its variable one is the other's negation
  pub seen_opposite : (m : Lit) → IsNonDecreasingBy variable sorted → Contains kept m → variable l ≤
      variable m → m ≢ l →
      is_always_true sorted ≡ true
  seen_opposite m order has most other =
      let old = seen.inside m has in
      let k : ℕ = old.0 in
      let at_k : get_or sorted k l ≡ m = get_or_from_slice_get sorted k m l old.2 in
      let at_i : get_or sorted i l ≡ l = get_or_from_slice_get sorted i l l at in
      let within = slice_get_within sorted i l at in
      let up : variable (get_or sorted k l) ≤ variable (get_or sorted i l) = order k i l
      (omega (arith, old.1)) within in
      let same : variable m ≡ variable l = omega
      (arith, up, ap variable at_k, ap variable at_i, most) in
      elim (same_variable m l same) [
        | inl one ↦ absurd (other one)
        | inr negated ↦
            let there : Contains sorted l = (i, within, at_i) in
            let opposite : Contains sorted (negation l) = (
              k,
              slice_get_within sorted k m old.2,
              get_or_from_slice_get sorted k m (negation l)
                  old.2 ∙ negated,
            ) in
            list_any-from_Any (λ (x : Lit). is_among sorted (negation x)) sorted
            (i, l, within, at_i, contains_among sorted (negation l) opposite)
      ]

-- at the end all are seen
pub seen_all : (sorted kept : Clause) (i : ℕ) → HasSeen sorted kept i → length sorted ≤ i →
    SameLiterals kept sorted × HasOnce kept
seen_all sorted kept i seen most = (
  (
    λ k d within.
        let x : Lit = get_or kept k d in
        let old = seen.inside x (Contains-get_or kept k d within) in (
          old.0,
          slice_get_within sorted old.0 x old.2,
          get_or_from_slice_get sorted old.0 x x
              old.2,
        ),
    λ k d within. seen.whole k (get_or sorted k d) (omega (arith, within, most))
        (slice_get-get_or sorted k d within),
  ),
  λ a b d below within same. let up = seen.rising a b d below within in omega (arith, up, same),
)

-- the test of two literals
pub same_lit : (m l : Lit) → false ≡ not (int_eq m.code l.code) → m ≡ l
same_lit m l is = by (int_eq m.code l.code) refl is where
  by : (b : Bool) → int_eq m.code l.code ≡ b → false ≡ not b → m ≡ l
  by true same e = ap lit ((Decides-int_eq m.code l.code).0 same)
  by false other e = cc

pub other_lit : (m l : Lit) → true ≡ not (int_eq m.code l.code) → m ≢ l
other_lit m l is same =
    let one : int_eq m.code l.code ≡ true = (Decides-int_eq m.code l.code).1
    (ap (λ (x : Lit). x.code) same) in
    both_ways (not (int_eq m.code l.code)) (ap not one) (sym is)

-- in another order the clause has the same different literals
always_true-same : (c d : Clause) → SameLiterals c d → is_always_true c ≡ true → is_always_true d ≡
    true
always_true-same c d same is =
    let some = Any-from_list_any (λ (l : Lit). is_among c (negation l)) c is in
    let l : Lit = some.1 in
    let here = All-contains (Contains d) c l same.0 (some.0, some.2, some.3) in
    let opposite = All-contains (Contains d) c (negation l) same.0
    (among_contains c (negation l) some.4) in
    list_any-from_Any (λ (x : Lit). is_among d (negation x)) d
    (here.0, l, here.1, here.2, contains_among d (negation l) opposite)

pub distinct-same : (c d kept : Clause) → SameLiterals c d → (b : Bool) → IsDistinct c kept b →
    IsDistinct d kept b
distinct-same c d kept same false is = always_true-same c d same is
distinct-same c d kept same true is = (
  (
    All-weaker (Contains c) (Contains d) (λ x has. All-contains (Contains d) c x same.0 has)
        kept is.0.0,
    All-weaker (Contains c) (Contains kept) (λ x has. All-contains (Contains kept) c x is.0.1 has)
        d same.1,
  ),
  is.1,
)

-- the variables of the first n literals rise, up to this one
pub record IsRising (lits : Clause) (n last : ℕ) : Type 0 where
  pub rising : (i j : ℕ) (d : Lit) → i < j → j < n →
      variable (get_or lits i d) < variable (get_or lits j d)
  pub below : (i : ℕ) (d : Lit) → i < n → variable (get_or lits i d) ≤ last

pub rising_start : (lits : Clause) → IsRising lits 0 0
rising_start lits = record {
  rising = λ i j d below within. absurd (omega (arith, within));
  below = λ i d within. absurd (omega (arith, within));
}

pub rising_next : (lits : Clause) (n last : ℕ) (l : Lit) → IsRising lits n last →
    slice_get lits n ≡ Some l → last < variable l → IsRising lits (suc n) (variable l)
rising_next lits n last l is at above = record {
  rising = λ i j d below within. elim (cases_eq j n) [
    | inl same ↦
        let low = is.below i d (omega (arith, below, same)) in
        omega (arith, low, above, ap variable (here j d same))
    | inr other ↦ is.rising i j d below (omega (arith, within, other))
  ];
  below = λ i d within. elim (cases_eq i n) [
    | inl same ↦ omega (arith, ap variable (here i d same))
    | inr other ↦ let low = is.below i d (omega (arith, within, other)) in omega (arith, low, above)
  ];
}
  where
    here : (j : ℕ) (d : Lit) → j ≡ n → get_or lits j d ≡ l
    here j d same = ap (λ (k : ℕ). get_or lits k d) same ∙ get_or_from_slice_get lits n l d at

pub rising_once : (lits : Clause) (n last : ℕ) → IsRising lits n last → length lits ≤ n →
    HasOnce lits
rising_once lits n last is most i j d below within same =
    let up = is.rising i j d below (omega (arith, within, most)) in
    omega (arith, up, same)

-- The walk back along the hints of a good step finds those that it needs.
use Rattle.std.proofs.Common.{◌≡◌, ◌<◌, ◌≤◌, ℕ, zero, suc, ℤ, pos, negsuc, Bool, true, false, List, [], ◌∷◌, ◌++◌, length, get_or, drop, Option, None, Some, refl, sym, ap, subst, ◌∙◌, inl, inr, arith, All}
use Rattle.std.specs.Prelude.{not, ◌&&◌, ◌||◌, ◌⊎◌, reverse}
use Rattle.std.specs.List.{list_any}
use Rattle.std.specs.Option.{option_map_or}
use Rattle.std.specs.Ordering.{int_eq}
use Rattle.std.proofs.Math.Seq.{drop-cons}
use Rattle.std.proofs.lemmas.Bool.{both_ways, or_cases}
use Rattle.std.proofs.lemmas.List.{length-drop, reverse-append}
use Rattle.std.proofs.lemmas.List.Folds.{list_any-append, list_any_none}
use Rattle.list_laws.proofs.Members.{In, In-all, In-contains, all-from_In, list_any-from_In}
use Rattle.sat_clause.specs.declared.literal.Lit.{Lit}
use Rattle.sat_clause.specs.declared.reading.Reading.{Reading}
use Rattle.sat_clause.specs.declared.reading.Reading.TheVariants.{Conflict, Unit, Satisfied, Unresolved}
use Rattle.sat_clause.specs.Literal.{Clause, is_among, negation, variable}
use Rattle.sat_clause.specs.Live.{Live, clause_at, named}
use Rattle.sat_clause.specs.Rup.{follow, lead_on, reading_of, rup}
use Rattle.sat_clause.proofs.LiteralLaws.{among_cases, among_contains, among_more, negation-negation, negation_differs}
use Rattle.sat_clause.proofs.ReadingLaws.{IsFalseOr, conflict_all, unit_is_open}
use Rattle.sat_check.specs.Finder.{Finder}
use Rattle.route_core.specs.Needed.{Kept, kept_if, needed_at, needed_by, needed_from}
use Rattle.route_core.specs.Walking.{HasKept, clause_of, kept_back, serves}
use Rattle.route_core.specs.Wanting.{Tells, WantedState}

pub among-append : (xs ys : List Lit) (m : Lit)
    → is_among (xs ++ ys) m ≡ (is_among xs m || is_among ys m)
among-append xs ys m = list_any-append (λ (x : Lit). int_eq x.code m.code) xs ys

-- ---- the false literals of a step with this clause: its own are among them, and of the others
-- none has its negation there

pub record IsApart (own set : List Lit) : Type 0 where
  pub part : (m : Lit) → is_among own m ≡ true → is_among set m ≡ true
  pub apart : (m : Lit) → is_among set m ≡ true → is_among set (negation m) ≡ true
      → is_among own (negation m) ≡ true

apart-own : (own : List Lit) → IsApart own own
apart-own own = record { part = λ m is. is; apart = λ m one other. other }

-- one literal more, which was neither false nor true
apart-more : (own set : List Lit) (l : Lit) → 1 ≤ variable l → IsApart own set
    → is_among set l ≡ false → is_among set (negation l) ≡ false → IsApart own (negation l ∷ set)
apart-more own set l some h free not_true = record {
  part = λ m is. among_more set (negation l) m (h.part m is);
  apart = λ m one other. elim (among_cases set (negation l) m one) [
    | inl same ↦ absurd (first m same other)
    | inr in_set ↦ elim (among_cases set (negation l) (negation m) other) [
      | inl twice ↦ absurd (both_ways _ free
          (subst (λ (x : Lit). is_among set x ≡ true) (back m twice) in_set))
      | inr negated ↦ h.apart m in_set negated
    ]
  ];
}
  where
    back : (m : Lit) → negation l ≡ negation m → m ≡ l
    back m same =
        sym (negation-negation m) ∙ ap (λ (x : Lit). negation x) (sym same) ∙ negation-negation l

    first : (m : Lit) → negation l ≡ m → is_among (negation l ∷ set) (negation m) ≡ true → ⊥
    first m same other = elim (among_cases set (negation l) (negation m) other) [
      | inl twice ↦ negation_differs l some (same ∙ back m twice)
      | inr in_set ↦ both_ways _ free (subst (λ (x : Lit). is_among set x ≡ true)
          (ap (λ (x : Lit). negation x) (sym same) ∙ negation-negation l) in_set)
    ]

unless : (a b : Bool) → (a ≡ true → b ≡ true) → (a && not b) ≡ false
unless true b h = ap not (h refl)
unless false b h = refl

module _ (live : Live) (own : List Lit)
    (some : (h : ℤ) (c : Clause) → named live h ≡ Some c → All (λ m. 1 ≤ variable m) c) where
  -- what is wanted of the literals that are false is nothing but of the step's own
  abbrev Owns : Kept → List Lit → Type 0
  Owns kept set = (m : Lit) → is_among set m ≡ true → is_among kept.wanted (negation m) ≡ true
      → is_among own (negation m) ≡ true

  -- each literal of a clause is false, or is not true
  abbrev EachIs : List Lit → Clause → Type 0
  EachIs set c = (x : Lit) → In c x → (is_among set x ≡ true) ⊎ (is_among set (negation x) ≡ false)

  of-clause : (set : List Lit) (c : Clause) → IsApart own set → EachIs set c → (m : Lit)
      → is_among set m ≡ true → is_among c (negation m) ≡ true → is_among own (negation m) ≡ true
  of-clause set c h each m in_set in_c =
      elim (each (negation m) (In-contains c (negation m) (among_contains c (negation m) in_c))) [
        | inl there ↦ h.apart m in_set there
        | inr not_true ↦ absurd (both_ways _ not_true
            (subst (λ (x : Lit). is_among set x ≡ true) (sym (negation-negation m)) in_set))
      ]

  unit-each : (set : List Lit) (c : Clause) (l : Lit) → reading_of set c ≡ Unit l → EachIs set c
  unit-each set c l e x i =
      let unit = unit_is_open set l c e in
      elim (In-all (IsFalseOr set l) c x unit.0.rest i) [
        | inl there ↦ inl there
        | inr same ↦ inr (subst (λ (y : Lit). is_among set (negation y) ≡ false) (sym same) unit.1)
      ]

  apart-unit : (set : List Lit) (g : ℤ) (c : Clause) (l : Lit) → IsApart own set
      → named live g ≡ Some c → reading_of set c ≡ Unit l → IsApart own (negation l ∷ set)
  apart-unit set g c l h is e =
      let unit = unit_is_open set l c e in
      apart-more own set l
      (In-all (λ m. 1 ≤ variable m) c l (some g c is) (In-contains c l unit.0.has)) h unit.0.free
      unit.1

  owns-if : (set : List Lit) (b : Bool) (g : ℤ) (c : Clause) (rest : Kept)
      → ((m : Lit) → is_among set m ≡ true → is_among c (negation m) ≡ true
      → is_among own (negation m) ≡ true) → Owns rest set → Owns (kept_if b g c rest) set
  owns-if set true g c rest here later m in_set wants =
      elim (or_cases (is_among c (negation m)) (is_among rest.wanted (negation m))
      (sym (among-append c rest.wanted (negation m)) ∙ wants)) [
        | inl x ↦ here m in_set x
        | inr y ↦ later m in_set y
      ]
  owns-if set false g c rest here later m in_set wants = later m in_set wants

  module _ (set : List Lit) (g : ℤ) (hints : List ℤ) (h : IsApart own set) where
    -- what holds of the hints behind
    abbrev More : Type 0
    More = (l : Lit) → rup live (negation l ∷ set) hints ≡ None → IsApart own (negation l ∷ set)
        → Owns (needed_from live (negation l ∷ set) hints) (negation l ∷ set)

    owns-by : (c : Clause) → named live g ≡ Some c → (r : Reading) → reading_of set c ≡ r
        → lead_on r hints (λ l. rup live (negation l ∷ set) hints) ≡ None → More
        → Owns (needed_by c g r (λ l. needed_from live (negation l ∷ set) hints)) set
    owns-by c is Conflict e f more m in_set wants =
        of-clause set c h
        (λ x i. inl (In-all (λ y. is_among set y ≡ true) c x (conflict_all set c e) i)) m in_set
        wants
    owns-by c is (Unit l) e f more m in_set wants =
        let rest : Kept = needed_from live (negation l ∷ set) hints in
        owns-if set (is_among rest.wanted (negation l)) g c rest
        (of-clause set c h (unit-each set c l e))
        (λ x x_in x_wants. more l f (apart-unit set g c l h is e) x
        (among_more set (negation l) x x_in) x_wants) m in_set wants
    owns-by c is Satisfied e f more m in_set wants = cc
    owns-by c is Unresolved e f more m in_set wants = cc

    owns-at : (o : Option Clause) → named live g ≡ o
        → follow set o hints (λ l. rup live (negation l ∷ set) hints) ≡ None → More
        → Owns (needed_at set o g (λ l. needed_from live (negation l ∷ set) hints)) set
    owns-at None is f more = cc
    owns-at (Some c) is f more = owns-by c is (reading_of set c) refl f more

  owns : (set : List Lit) (hints : List ℤ) → rup live set hints ≡ None → IsApart own set
      → Owns (needed_from live set hints) set
  owns set [] f h = cc
  owns set (g ∷ hints) f h =
      owns-at set g hints h (named live g) refl f
      (λ l e apart. owns (negation l ∷ set) hints e apart)

  -- so the clause of a hint serves where the literal is wanted that it makes false
  served : (set : List Lit) (g : ℤ) (c : Clause) (l : Lit) (hints : List ℤ) → IsApart own set
      → named live g ≡ Some c → reading_of set c ≡ Unit l
      → rup live (negation l ∷ set) hints ≡ None
      → serves own (needed_from live (negation l ∷ set) hints).wanted c
      ≡ is_among (needed_from live (negation l ∷ set) hints).wanted (negation l)
  served set g c l hints h is e f = go (is_among wanted (negation l)) refl
    where
      wanted : List Lit
      wanted = (needed_from live (negation l ∷ set) hints).wanted

      test : Lit → Bool
      test m = is_among wanted (negation m) && not (is_among own (negation m))

      not_own : is_among own (negation l) ≡ false
      not_own = by (is_among own (negation l)) refl
        where
          by : (b : Bool) → is_among own (negation l) ≡ b → b ≡ false
          by false is_own = refl
          by true is_own =
              absurd (both_ways _ (unit_is_open set l c e).1 (h.part (negation l) is_own))

      none : is_among wanted (negation l) ≡ false → (x : Lit) → In c x → test x ≡ false
      none absent x i = elim (In-all (IsFalseOr set l) c x (unit_is_open set l c e).0.rest i) [
        | inl there ↦ unless (is_among wanted (negation x)) (is_among own (negation x))
            (owns (negation l ∷ set) hints f (apart-unit set g c l h is e) x
            (among_more set (negation l) x there))
        | inr same ↦ unless (is_among wanted (negation x)) (is_among own (negation x))
            (λ wants. absurd (both_ways _ absent
            (subst (λ (y : Lit). is_among wanted (negation y) ≡ true) same wants)))
      ]

      go : (b : Bool) → is_among wanted (negation l) ≡ b → list_any test c ≡ b
      go true wants =
          list_any-from_In test c l (In-contains c l (unit_is_open set l c e).0.has)
          (λ i. wants i && not (not_own i))
      go false absent = list_any_none test c (all-from_In (λ x. test x ≡ false) c (none absent))

  -- what ids stand for; what is live under an id is that
  abbrev pub AreSaid : Finder → Type 0
  AreSaid said = (id : ℕ) (clause : Clause) → clause_at live id ≡ Some clause
      → said id ≡ Some clause

  module _ (said : Finder) (are : AreSaid said) where
    named-said : (h : ℤ) (c : Clause) → named live h ≡ Some c → clause_of said h ≡ c
    named-said (pos zero) c is = cc
    named-said (pos (suc n)) c is =
        ap (λ (o : Option Clause). option_map_or (λ d. d) o []) (are (suc n) c is)
    named-said (negsuc n) c is = cc

    module _ (set : List Lit) (g : ℤ) (hints : List ℤ) (c : Clause) (is : named live g ≡ Some c)
      where
        step-needed : (r : Reading) → reading_of set c ≡ r → needed_from live set (g ∷ hints)
            ≡ needed_by c g r (λ l. needed_from live (negation l ∷ set) hints)
        step-needed r e =
            ap (λ (o : Option Clause). needed_at set o g
            (λ l. needed_from live (negation l ∷ set) hints)) is
            ∙ ap (λ (x : Reading). needed_by c g x
            (λ l. needed_from live (negation l ∷ set) hints)) e

    -- the last hint
    walk-last : (set : List Lit) (g : ℤ) (c : Clause) → named live g ≡ Some c → (r : Reading)
        → reading_of set c ≡ r → lead_on r [] (λ l. rup live (negation l ∷ set) []) ≡ None
        → needed_from live set (g ∷ []) ≡ kept_back said own (g ∷ [])
    walk-last set g c is Conflict e f =
        step-needed set g [] c is Conflict e
        ∙ ap (λ (d : Clause). record { hints = g ∷ []; wanted = d }) (sym (named-said g c is))
    walk-last set g c is (Unit l) e f = cc
    walk-last set g c is Satisfied e f = cc
    walk-last set g c is Unresolved e f = cc

    -- a hint with others behind it
    walk-next : (set : List Lit) (g next : ℤ) (hints : List ℤ) → IsApart own set → (c : Clause)
        → named live g ≡ Some c → (r : Reading) → reading_of set c ≡ r
        → lead_on r (next ∷ hints) (λ l. rup live (negation l ∷ set) (next ∷ hints)) ≡ None
        → ((l : Lit) → rup live (negation l ∷ set) (next ∷ hints) ≡ None
        → IsApart own (negation l ∷ set)
        → needed_from live (negation l ∷ set) (next ∷ hints) ≡ kept_back said own (next ∷ hints))
        → needed_from live set (g ∷ next ∷ hints) ≡ kept_back said own (g ∷ next ∷ hints)
    walk-next set g next hints h c is Conflict e f more = cc
    walk-next set g next hints h c is (Unit l) e f more =
        let rest : Kept = needed_from live (negation l ∷ set) (next ∷ hints) in
        let back : Kept = kept_back said own (next ∷ hints) in
        step-needed set g (next ∷ hints) c is (Unit l) e
        ∙ ap (λ (b : Bool). kept_if b g c rest) (sym (served set g c l (next ∷ hints) h is e f))
        ∙ ap (λ (k : Kept). kept_if (serves own k.wanted c) g c k)
        (more l f (apart-unit set g c l h is e))
        ∙ ap (λ (d : Clause). kept_if (serves own back.wanted d) g d back)
        (sym (named-said g c is))
    walk-next set g next hints h c is Satisfied e f more = cc
    walk-next set g next hints h c is Unresolved e f more = cc

    walk-from : (set : List Lit) (hints : List ℤ) → rup live set hints ≡ None → IsApart own set
        → needed_from live set hints ≡ kept_back said own hints
    walk-from set [] f h = cc
    walk-from set (g ∷ []) f h = at (named live g) refl f
      where
        at : (o : Option Clause) → named live g ≡ o
            → follow set o [] (λ l. rup live (negation l ∷ set) []) ≡ None
            → needed_from live set (g ∷ []) ≡ kept_back said own (g ∷ [])
        at None is e = cc
        at (Some c) is e = walk-last set g c is (reading_of set c) refl e
    walk-from set (g ∷ next ∷ hints) f h =
        at (named live g) refl f
        (λ l e apart. walk-from (negation l ∷ set) (next ∷ hints) e apart)
      where
        at : (o : Option Clause) → named live g ≡ o
            → follow set o (next ∷ hints) (λ l. rup live (negation l ∷ set) (next ∷ hints)) ≡ None
            → ((l : Lit) → rup live (negation l ∷ set) (next ∷ hints) ≡ None
            → IsApart own (negation l ∷ set)
            → needed_from live (negation l ∷ set) (next ∷ hints)
            ≡ kept_back said own (next ∷ hints))
            → needed_from live set (g ∷ next ∷ hints) ≡ kept_back said own (g ∷ next ∷ hints)
        at None is e more = cc
        at (Some c) is e more = walk-next set g next hints h c is (reading_of set c) refl e more

    -- the walk back keeps the needed hints
    pub walk : (hints : List ℤ) → rup live own hints ≡ None
        → needed_from live own hints ≡ kept_back said own hints
    walk hints f = walk-from own hints f (apart-own own)

-- good hints are some
pub some-hints : (live : Live) (set : List Lit) (hints : List ℤ) → rup live set hints ≡ None
    → 1 ≤ length hints
some-hints live set [] f = cc
some-hints live set (h ∷ hints) f = omega arith

-- ---- from place to place

back-cons : (said : Finder) (own : Clause) (h : ℤ) (hints : List ℤ) → 1 ≤ length hints
    → kept_back said own (h ∷ hints)
    ≡ kept_if (serves own (kept_back said own hints).wanted (clause_of said h)) h
    (clause_of said h) (kept_back said own hints)
back-cons said own h [] some = absurd (omega (arith, some))
back-cons said own h (next ∷ hints) some = refl

pub back-next : (said : Finder) (own : Clause) (hints : List ℤ) (i : ℕ) → suc i < length hints
    → kept_back said own (drop i hints)
    ≡ kept_if (serves own (kept_back said own (drop (suc i) hints)).wanted
    (clause_of said (get_or hints i (pos 0)))) (get_or hints i (pos 0))
    (clause_of said (get_or hints i (pos 0))) (kept_back said own (drop (suc i) hints))
back-next said own hints i low =
    ap (kept_back said own) (drop-cons hints i (pos 0) (omega (arith, low)))
    ∙ back-cons said own (get_or hints i (pos 0)) (drop (suc i) hints)
    (omega (arith, low, length-drop (suc i) hints))

pub back-last : (said : Finder) (own : Clause) (hints : List ℤ) (i : ℕ) → suc i ≡ length hints
    → kept_back said own (drop i hints)
    ≡ record {
      hints = get_or hints i (pos 0) ∷ [];
      wanted = clause_of said
          (get_or hints i (pos 0));
    }
back-last said own hints i last =
    ap (kept_back said own) (drop-cons hints i (pos 0) (omega (arith, last)))
    ∙ ap (λ (more : List ℤ). kept_back said own (get_or hints i (pos 0) ∷ more))
    (nothing hints last)
  where
    nothing : (xs : List ℤ) → suc i ≡ length xs → drop (suc i) xs ≡ []
    nothing xs e = empty (drop (suc i) xs) (omega (arith, e, length-drop (suc i) xs))
      where
        empty : (ys : List ℤ) → length ys ≡ 0 → ys ≡ []
        empty [] e = refl
        empty (y ∷ ys) e = absurd (omega (arith, e))

-- a hint that is kept
pub has_kept-more : (own : Clause) (h : ℤ) (clause : Clause) (rest : Kept) (row : List ℤ)
    (w : WantedState) → row ≡ reverse rest.hints → (b : Bool) → b ≡ true
    → Tells own (clause ++ rest.wanted) w
    → HasKept own (kept_if b h clause rest) (row ++ h ∷ []) w
has_kept-more own h clause rest row w is true e tells = record {
  row_is = ap (λ (ks : List ℤ). ks ++ h ∷ []) is ∙ sym (reverse-append (h ∷ []) rest.hints);
  tells = tells;
}
has_kept-more own h clause rest row w is false e tells = cc

-- and one that is not
pub has_kept-same : (own : Clause) (h : ℤ) (clause : Clause) (rest : Kept) (row : List ℤ)
    (w : WantedState) → (b : Bool) → b ≡ false → HasKept own rest row w
    → HasKept own (kept_if b h clause rest) row w
has_kept-same own h clause rest row w false e has = has
has_kept-same own h clause rest row w true e has = cc

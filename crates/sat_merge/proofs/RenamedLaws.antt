-- Hints that name the same clauses under other ids lead where they led, and are needed where they
-- were.
use Rattle.std.proofs.Common.{◌≡◌, ◌∙◌, ℤ, List, [], ◌∷◌, map, Any, All, Option, None, Some, refl, sym, ap, subst, arith}
use Rattle.std.proofs.lemmas.List.{get_or-map, length-map}
use Rattle.std.proofs.lemmas.List.Elements.{All-head, All-tail, All-weaker}
use Rattle.sat_clause.specs.declared.literal.Lit.{Lit}
use Rattle.sat_clause.specs.declared.reading.Reading.{Reading}
use Rattle.sat_clause.specs.declared.reading.Reading.TheVariants.{Conflict, Unit, Satisfied, Unresolved}
use Rattle.sat_clause.specs.Learned.{EachIsUsed, HintHas, IsRelevant}
use Rattle.sat_clause.specs.Literal.{Clause, negation}
use Rattle.sat_clause.specs.Live.{Live, named}
use Rattle.sat_clause.specs.Rup.{Reads, after_conflict, follow, lead_on, reading_of, rup}

module _ (old new : Live) (f : ℤ → ℤ) where
  -- the clause of the hint is that of the other one
  abbrev pub IsRenamed : ℤ → Type 0
  IsRenamed h = (c : Clause) → named old h ≡ Some c → named new (f h) ≡ Some c

  none_behind : (hints : List ℤ) → after_conflict hints ≡ None →
      after_conflict (map f hints) ≡ None
  none_behind [] none = refl
  none_behind (h ∷ hints) none = cc

  -- hints that lead to a conflict still do, wherever they do
  abbrev StillLead : List ℤ → Type 0
  StillLead hints = (set : List Lit) → rup old set hints ≡ None → rup new set (map f hints) ≡ None

  pub renamed-good : (set : List Lit) (hints : List ℤ) → All IsRenamed hints →
      rup old set hints ≡ None → rup new set (map f hints) ≡ None
  renamed-good set [] same good = cc
  renamed-good set (h ∷ hints) same good =
      by (λ s is. renamed-good s hints (All-tail IsRenamed h hints same) is) (named old h) refl good
    where
      lead : StillLead hints → (r : Reading) →
          lead_on r hints (λ l. rup old (negation l ∷ set) hints) ≡ None →
          lead_on r (map f hints) (λ l. rup new (negation l ∷ set) (map f hints)) ≡ None
      lead later Conflict is = none_behind hints is
      lead later (Unit l) is = later (negation l ∷ set) is
      lead later Satisfied is = cc
      lead later Unresolved is = cc

      by : StillLead hints → (o : Option Clause) → named old h ≡ o →
          follow set o hints (λ l. rup old (negation l ∷ set) hints) ≡ None →
          follow set (named new (f h)) (map f hints)
          (λ l. rup new (negation l ∷ set) (map f hints)) ≡ None
      by later None there is = cc
      by later (Some c) there is =
          rw (All-head IsRenamed h hints same c there) (lead later (reading_of set c) is)

  -- a literal that stands in the clause of a hint still does
  stands : (l : Lit) (hints : List ℤ) → All IsRenamed hints → Any (HintHas old l) hints →
      Any (HintHas new l) (map f hints)
  stands l hints same some =
      let h : ℤ = some.1 in
      let there : named new (f h) ≡ Some some.4.0 =
      subst IsRenamed some.3 (same some.0 h some.2) some.4.0 some.4.1 in (
        some.0,
        f h,
        omega (arith, some.2, length-map hints f),
        get_or-map f hints some.0 h (f h) some.2 ∙ ap f some.3,
        (some.4.0, there, some.4.2),
      )

  reads : (set : List Lit) (r : Reading) (o other : Option Clause) →
      ((c : Clause) → o ≡ Some c → other ≡ Some c) → Reads set o r → Reads set other r
  reads set r None other same is = absurd is
  reads set r (Some c) other same is =
      subst (λ (o : Option Clause). Reads set o r) (sym (same c refl)) is

  -- and each hint that is used still is
  used : (set : List Lit) (hints : List ℤ) → All IsRenamed hints → EachIsUsed old set hints →
      EachIsUsed new set (map f hints)
  used set [] same is = tt
  used set (h ∷ []) same is = tt
  used set (h ∷ next ∷ hints) same is =
      let later = All-tail IsRenamed h (next ∷ hints) same in (
        is.0,
        reads set (Unit is.0) (named old h) (named new (f h))
            (All-head IsRenamed h (next ∷ hints) same) is.1,
        stands (negation is.0) (next ∷ hints) later is.2,
        used (negation is.0 ∷ set) (next ∷ hints) later is.3,
      )

  -- so hints that are needed for a clause are
  pub renamed-relevant : (clause : Clause) (hints : List ℤ) → All IsRenamed hints →
      IsRelevant old clause hints → IsRelevant new clause (map f hints)
  renamed-relevant clause hints same is = record {
    each_literal = All-weaker (λ l. Any (HintHas old l) hints)
        (λ l. Any (HintHas new l) (map f hints)) (λ l some. stands l hints same some) clause
        is.each_literal;
    each_hint = used clause hints same is.each_hint;
  }

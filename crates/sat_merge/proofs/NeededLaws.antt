-- What hints that were read, and that are needed, say of the clause that they are for.
use Rattle.std.proofs.Common.{◌≡◌, ◌∙◌, ◌⊎◌, ◌+◌, ◌<◌, ◌≤◌, ℕ, suc, Bool, true, false, ℤ, pos, List, [], ◌∷◌, ◌++◌, Any, None, Some, add-one, arith, drop, get_or, inl, inr, length, refl, sym}
use Rattle.std.specs.Ordering.{int_eq}
use Rattle.std.specs.Prelude.{IsTrue, ◌||◌}
use Rattle.std.proofs.Math.Seq.{drop-cons}
use Rattle.std.proofs.lemmas.Bool.{both_ways, or_cases}
use Rattle.std.proofs.lemmas.List.{drop_all}
use Rattle.std.proofs.lemmas.List.Elements.{All-weaker}
use Rattle.std.proofs.lemmas.List.Folds.{list_any-append}
use Rattle.sat_clause.specs.declared.literal.Lit.{Lit}
use Rattle.sat_clause.specs.declared.reading.Reading.TheVariants.{Conflict, Unit}
use Rattle.sat_clause.specs.Learned.{EachIsUsed, HintHas}
use Rattle.sat_clause.specs.Literal.{Clause, is_among, negation}
use Rattle.sat_clause.specs.Live.{Live, named}
use Rattle.sat_clause.specs.Rup.{reading_of, rup}
use Rattle.sat_clause.proofs.LiteralLaws.{among_contains}
use Rattle.sat_clause.proofs.ReadingLaws.{follow_conflict, follow_unit}
use Rattle.sat_check.specs.Finder.{Finder, Finds, named_by}
use Rattle.sat_check.proofs.HintLaws.{named_found}
use Rattle.sat_merge.specs.Needed.{AreMet, AreNeeded, AreRead, IsMeeting, MeetsSome}
use Rattle.sat_merge.specs.Rewritten.{IsJustified}

-- hints that are read lead to a conflict
pub read-good : (live : Live) (hints : List ℤ) (set units : List Lit) →
    AreRead live set hints units → rup live set hints ≡ None
read-good live [] set units read = absurd read
read-good live (h ∷ hints) set [] read =
    rw read.0 (follow_conflict set (named live h) (λ l. rup live (negation l ∷ set) []) read.1)
read-good live (h ∷ hints) set (l ∷ units) read =
    follow_unit set (named live h) l hints (λ m. rup live (negation m ∷ set) hints) read.0
    ∙ read-good live hints (negation l ∷ set) units read.1

-- and where they are needed for their units, each of them is used
pub read-used : (live : Live) (hints : List ℤ) (set units : List Lit) →
    AreRead live set hints units → AreNeeded live units hints → EachIsUsed live set hints
read-used live [] set units read needed = tt
read-used live (h ∷ []) set units read needed = tt
read-used live (h ∷ next ∷ hints) set [] read needed =
    let same = read.0 in absurd (cc)
read-used live (h ∷ next ∷ hints) set (l ∷ units) read needed = (
  l,
  read.0,
  needed.0,
  read-used live (next ∷ hints) (negation l ∷ set) units read.1 needed.1,
)

-- some hint behind the first one has the literal
stands-later : (live : Live) (l : Lit) (h : ℤ) (hints : List ℤ) → Any (HintHas live l) hints →
    Any (HintHas live l) (h ∷ hints)
stands-later live l h hints some =
    (suc some.0, some.1, omega (arith, some.2), some.3, some.4)

-- what is among a clause and what was met stands in the hint of that clause or behind it
stands-more : (live : Live) (met : List Lit) (h : ℤ) (hints : List ℤ) (c : Clause) →
    named live h ≡ Some c → ((l : Lit) → IsTrue (is_among met l) → Any (HintHas live l) hints) →
    (l : Lit) → IsTrue (is_among (c ++ met) l) → Any (HintHas live l) (h ∷ hints)
stands-more live met h hints c there stands l is =
    elim (or_cases _ _ (sym (list_any-append (λ m. int_eq m.code l.code) c met) ∙ is)) [
      | inl here ↦ (0, h, omega arith, refl, (c, there, among_contains c l here))
      | inr later ↦ stands-later live l h hints (stands l later)
    ]

module _ (find : Finder) (clauses : Live) (finds : Finds find clauses) (hints : List ℤ) (i : ℕ)
    (below : i < length hints) (c : Clause)
    (is : Some c ≡ named_by find (get_or hints i (pos 0))) where
  there : named clauses (get_or hints i (pos 0)) ≡ Some c
  there = named_found find clauses finds _ ∙ sym is

  -- a hint whose clause makes a literal true has it as its unit
  pub read-unit : (set : List Lit) (l : Lit) (units : List Lit) → Unit l ≡ reading_of set c →
      AreRead clauses (negation l ∷ set) (drop (i + 1) hints) units →
      AreRead clauses set (drop i hints) (l ∷ units)
  read-unit set l units reads later =
      rw (drop-cons hints i (pos 0) below, there) (sym reads, rw add-one at later)

  -- a last hint whose clause is false has none
  pub read-last : (set : List Lit) → i + 1 ≡ length hints → Conflict ≡ reading_of set c →
      AreRead clauses set (drop i hints) []
  read-last set last reads =
      rw (drop-cons hints i (pos 0) below, there)
      (drop_all (suc i) hints (omega arith), sym reads)

  -- one more hint in front, whose unit has its negation met behind it
  pub meeting-unit : (met units : List Lit) (d : Lit) → i < length units →
      IsTrue (is_among met (negation (get_or units i d))) →
      IsMeeting clauses met (drop (suc i) units) (drop (suc i) hints) →
      IsMeeting clauses (c ++ met) (drop i units) (drop i hints)
  meeting-unit met units d has denied behind =
      rw (drop-cons hints i (pos 0) below, drop-cons units i d has) (record {
        needed = (behind.stands (negation (get_or units i d)) denied, behind.needed);
        stands = stands-more clauses met (get_or hints i (pos 0)) (drop (suc i) hints) c there
            behind.stands;
      })

  -- or which has no unit
  pub meeting-bare : (met units : List Lit) → length units ≤ i →
      IsMeeting clauses met (drop (suc i) units) (drop (suc i) hints) →
      IsMeeting clauses (c ++ met) (drop i units) (drop i hints)
  meeting-bare met units none behind =
      rw (drop-cons hints i (pos 0) below, drop_all i units none) (record {
        needed = tt;
        stands = stands-more clauses met (get_or hints i (pos 0)) (drop (suc i) hints) c there
            behind.stands;
      })

or_true : (b : Bool) → (b || true) ≡ true
or_true true = refl
or_true false = refl

-- it is enough to meet some of what is met
pub meeting-some : (live : Live) (before clause met units : List Lit) (hints : List ℤ) →
    MeetsSome before clause met → IsMeeting live (clause ++ before) units hints →
    IsMeeting live met units hints
meeting-some live before clause met units hints some all = record {
  needed = all.needed;
  stands = λ l is. all.stands l (among l (some l is));
}
  where
    among : (l : Lit) → IsTrue (is_among clause l) ⊎ IsTrue (is_among before l) →
        IsTrue (is_among (clause ++ before) l)
    among l (inl here) =
        list_any-append (λ (m : Lit). int_eq m.code l.code) clause before ∙ rw here refl
    among l (inr there) =
        list_any-append (λ (m : Lit). int_eq m.code l.code) clause before
        ∙ rw there (or_true (is_among clause l))

-- no hint is left, and nothing is met
pub meeting-none : (clauses : Live) (units : List Lit) (hints : List ℤ) →
    IsMeeting clauses [] (drop (length hints) units) (drop (length hints) hints)
meeting-none clauses units hints =
    rw (drop_all (length hints) hints (omega arith)) (record {
      needed = all_needed (drop (length hints) units);
      stands = λ l is. absurd (both_ways _ refl is);
    })
  where
    all_needed : (left : List Lit) → AreNeeded clauses left []
    all_needed [] = tt
    all_needed (l ∷ left) = tt

-- a clause is justified where its hints are read and needed, and its literals are met
pub read-justified : (live : Live) (clause met units : List Lit) (hints : List ℤ) →
    AreRead live clause hints units → IsMeeting live met units hints → AreMet met clause →
    IsJustified live clause hints
read-justified live clause met units hints read meeting all = record {
  good = read-good live hints clause units read;
  relevant = record {
    each_literal = All-weaker (λ l. IsTrue (is_among met l)) (λ l. Any (HintHas live l) hints)
        meeting.stands clause all;
    each_hint = read-used live hints clause units read meeting.needed;
  };
}

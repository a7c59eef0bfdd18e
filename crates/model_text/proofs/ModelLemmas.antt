-- Which clauses a model satisfies, and the values that it gives.
use Rattle.std.proofs.Common.{◌≡◌, ◌+◌, ◌<◌, ℕ, zero, suc, ℤ, pos, negsuc, Bool, true, false, not, List, [], ◌∷◌, length, None, Some, refl, sym, ap, subst, ◌∙◌, arith}
use Rattle.std.specs.Prelude.{All, ◌||◌, drop, slice_get, slice_index_or}
use Rattle.std.specs.List.{list_any}
use Rattle.std.proofs.lemmas.List.{drop_more, get_or_default}
use Rattle.std.proofs.lemmas.Option.{get_or_from_slice_get}
use Rattle.std.proofs.lemmas.List.Folds.{Any-from_list_any, list_any-from_Any}
use Rattle.sat_clause.specs.declared.literal.Lit.{Lit}
use Rattle.sat_clause.specs.Formula.{Cnf, IsTrueClause, Satisfies, makes_number_true, makes_true}
use Rattle.sat_clause.specs.Literal.{Clause, IsWithin, is_among, lit, negation}
use Rattle.sat_clause.proofs.LiteralLaws.{among_contains}
use Rattle.model_text.specs.declared.assignment.Assignment.{Assignment}
use Rattle.model_text.specs.Assignments.{Gives, gives}
use Rattle.model_text.specs.Models.{first_unmet, first_unmet_from, gives_both, is_met}
use Rattle.model_text.proofs.MarkLemmas.{mark-pos}

-- ---- the first clause without a literal of the model

-- the marks of a clause's literals say whether it is met
pub met-marks : (vars : ℕ) (literals : List Lit) (a : Assignment) (clause : Clause)
    → Gives vars literals a → All (IsWithin vars) clause
    → list_any (gives a) clause ≡ is_met literals clause
met-marks vars literals a [] given within = refl
met-marks vars literals a (l ∷ clause) given within =
    λ i. given.each l (within 0 l (omega arith)) i
    || met-marks vars literals a clause given (λ k d h. within (suc k) d (omega arith)) i

-- a clause that is met is passed by
pub unmet-past : (number : ℕ) (literals : List Lit) (clause : Clause) (more : List Clause)
    → is_met literals clause ≡ true
    → first_unmet_from number literals (clause ∷ more)
    ≡ first_unmet_from (suc number) literals more
unmet-past number literals clause more met = rw met refl

-- one that is not is the first
pub unmet-here : (number : ℕ) (literals : List Lit) (clause : Clause) (more : List Clause)
    → is_met literals clause ≡ false
    → first_unmet_from number literals (clause ∷ more) ≡ Some number
unmet-here number literals clause more unmet = rw unmet refl

-- where none is the first, each is met
pub all-met : (number : ℕ) (literals : List Lit) (clauses : List Clause)
    → first_unmet_from number literals clauses ≡ None
    → All (λ clause. is_met literals clause ≡ true) clauses
all-met number literals [] none = λ k d inside. absurd (omega (arith, inside))
all-met number literals (clause ∷ more) none =
    go (is_met literals clause) refl (all-met (suc number) literals more)
  where
    go : (b : Bool) → is_met literals clause ≡ b
        → (first_unmet_from (suc number) literals more ≡ None
        → All (λ c. is_met literals c ≡ true) more)
        → All (λ c. is_met literals c ≡ true) (clause ∷ more)
    go false e later k d inside = absurd (let clash : Some number ≡ None =
        sym (unmet-here number literals clause more e) ∙ none in cc)
    go true e later zero d inside = e
    go true e later (suc k) d inside =
        later (sym (unmet-past number literals clause more e) ∙ none) k d (omega (arith, inside))

-- the clauses from a place on
pub from-place : (clauses : List Clause) (i : ℕ) (clause : Clause) → i < length clauses
    → slice_get clauses i ≡ Some clause → drop i clauses ≡ clause ∷ drop (i + 1) clauses
from-place clauses i clause inside is =
    drop_more clauses i clause inside
    ∙ ap (λ (c : Clause). c ∷ drop (i + 1) clauses)
    (get_or_from_slice_get clauses i clause clause is)

module _ (literals : List Lit) (clauses : List Clause) (i : ℕ) (clause : Clause)
    (inside : i < length clauses) (is : slice_get clauses i ≡ Some clause)
    (so_far : first_unmet_from (i + 1) literals (drop i clauses) ≡ first_unmet literals clauses)
  where
    -- the clause at a place is met, and none before is the first
    pub past-place : is_met literals clause ≡ true
        → first_unmet_from (i + 1 + 1) literals (drop (i + 1) clauses)
        ≡ first_unmet literals clauses
    past-place met =
        let next : i + 1 + 1 ≡ suc (i + 1) = omega arith in
        ap (λ k. first_unmet_from k literals (drop (i + 1) clauses)) next
        ∙ sym (unmet-past (i + 1) literals clause (drop (i + 1) clauses) met)
        ∙ sym (ap (first_unmet_from (i + 1) literals) (from-place clauses i clause inside is))
        ∙ so_far

    -- it is not
    pub at-place : is_met literals clause ≡ false → Some (i + 1) ≡ first_unmet literals clauses
    at-place unmet =
        sym (unmet-here (i + 1) literals clause (drop (i + 1) clauses) unmet)
        ∙ sym (ap (first_unmet_from (i + 1) literals) (from-place clauses i clause inside is))
        ∙ so_far

-- ---- the values

-- where a literal and its negation are there, they are said both ways
pub both-given : (literals : List Lit) (l : Lit) → is_among literals l ≡ true
    → is_among literals (negation l) ≡ true → gives_both literals ≡ true
both-given literals l here there =
    let at = among_contains literals l here in
    list_any-from_Any (λ m. is_among literals (negation m)) literals
    (at.0, l, at.1, at.2, there)

module _ (vars : ℕ) (literals : List Lit) (a : Assignment) (given : Gives vars literals a) where
  -- a literal that is said to be true is of one of the variables
  given-within : (l : Lit) → is_among literals l ≡ true → IsWithin vars l
  given-within l here = let at = among_contains literals l here in
      subst (IsWithin vars) at.2 (given.within at.0 l at.1)

  -- and has that value
  pub value-given : (l : Lit) → is_among literals l ≡ true
      → makes_true a.positive.items l ≡ true
  value-given l here = go l.code (given-within l here) here where
    go : (z : ℤ) → IsWithin vars (lit z) → is_among literals (lit z) ≡ true
        → makes_number_true a.positive.items z ≡ true
    go (pos zero) within here = absurd (omega (arith, within.0))
    go (pos (suc n)) within here = sym (mark-pos a.positive.items a.negative.items n)
        ∙ given.each (lit (pos (suc n))) within ∙ here
    go (negsuc n) within here = ap not (default
        ∙ sym (mark-pos a.positive.items a.negative.items n)
        ∙ given.each (lit (pos (suc n))) within
        ∙ absent (is_among literals (lit (pos (suc n)))) refl)
      where
        default : slice_index_or a.positive.items n true ≡ slice_index_or a.positive.items n false
        default = get_or_default a.positive.items n true false
            (omega (arith, within.1, given.many, a.positive.ok.0))

        absent : (b : Bool) → is_among literals (lit (pos (suc n))) ≡ b → b ≡ false
        absent false e = refl
        absent true e = absurd (let clash : true ≡ false =
            sym (both-given literals (lit (pos (suc n))) e here) ∙ given.apart in cc)

  -- so a clause that is met is true
  pub clause-true : (clause : Clause) → is_met literals clause ≡ true
      → IsTrueClause a.positive.items clause
  clause-true clause met =
      let at = Any-from_list_any (is_among literals) clause met in
      (at.0, at.1, at.2, at.3, value-given at.1 at.4)

  -- and the values satisfy a formula whose clauses are met
  pub satisfied : (formula : Cnf) → formula.vars ≡ vars
      → first_unmet literals formula.clauses ≡ None → Satisfies a.positive.items formula
  satisfied formula same none = record {
    one_each = sym a.positive.ok.0 ∙ given.many ∙ sym same;
    each_clause = λ k clause inside.
        clause-true (slice_index_or formula.clauses k clause)
        (all-met 1 literals formula.clauses none k clause inside);
  }

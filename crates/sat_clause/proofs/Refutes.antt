-- Where a log is accepted, no list of truth values satisfies the formula.
use Rattle.std.specs.Prelude.{⊤, if◌then◌else◌}
use Rattle.std.proofs.Common.{◌≡◌, ℕ, zero, suc, ℤ, pos, negsuc, neg_ℤ, Bool, true, false, ◌||◌, List, [], ◌∷◌, None, Some, refl, sym, ◌∙◌, subst, slice_index_or, length, ◌<◌, arith, inl, inr}
use Rattle.std.specs.List.{list_any}
use Rattle.std.specs.Ordering.{int_eq}
use Rattle.std.proofs.lemmas.Bool.{or_cases, or_parts, or_left, or_right, both_ways}
use Rattle.std.proofs.lemmas.Bool.Decides.{Decides-int_eq}
use Rattle.std.proofs.lemmas.List.Elements.{All-weaker}
use Rattle.sat_clause.specs.declared.literal.Lit.{Lit}
use Rattle.sat_clause.specs.Literal.{Clause, negation, is_among}
use Rattle.sat_clause.specs.Formula.{Cnf, makes_true, makes_number_true, IsTrueClause, IsUnsat}
use Rattle.sat_clause.specs.Live.{Live, named}
use Rattle.sat_clause.specs.declared.reading.Reading.{Reading}
use Rattle.sat_clause.specs.declared.reading.Reading.TheVariants.{Conflict, Unit, Satisfied, Unresolved}
use Rattle.sat_clause.specs.Rup.{follow, lead_on, open_literals, reading_by, reading_of, rup}
use Rattle.sat_clause.specs.Step.{Step, Added, Erased}
use Rattle.sat_clause.specs.Judge.{Accepts, after, fault, inputs, is_empty_clause}
use Rattle.sat_clause.proofs.EachLive.{EachLive, each_erased, each_numbered, each_put, named_is}
use Rattle.sat_clause.proofs.JudgeLaws.{never_accepted}

-- a literal of the list is true
abbrev any_true : List Bool → List Lit → Bool
any_true values ls = list_any (makes_true values) ls

-- a literal of the clause is true
abbrev IsTrue : List Bool → Clause → Type 0
IsTrue values clause = any_true values clause ≡ true

abbrev AllTrue : List Bool → Live → Type 0
AllTrue values live = EachLive (IsTrue values) live

-- a value that is there is read whatever the default
read_either : (values : List Bool) (n : ℕ) → slice_index_or values n false ≡ true →
    slice_index_or values n true ≡ true
read_either [] n h = refl
read_either (v ∷ values) zero h = h
read_either (v ∷ values) (suc n) h = read_either values n h

-- a true literal's negation is false
not_both : (values : List Bool) (z : ℤ) → makes_number_true values z ≡ true →
    makes_number_true values (neg_ℤ z) ≡ false
not_both values (pos zero) h = refl
not_both values (pos (suc n)) h = rw (read_either values n h) refl
not_both values (negsuc n) h =
    elim (slice_index_or values n false) as (λ b. slice_index_or values n false ≡ b → b ≡ false) [
      | true ↦ λ e. absurd (both_ways _ (rw (read_either values n e) refl) h)
      | false ↦ λ e. refl
    ] refl

-- a literal among false ones is false
among_false : (values : List Bool) (set : List Lit) (l : Lit) → any_true values set ≡ false →
    is_among set l ≡ true → makes_true values l ≡ false
among_false values [] l none h = cc
among_false values (m ∷ set) l none h =
    let parts = or_parts _ _ none in
    elim (or_cases (int_eq m.code l.code) (is_among set l) h) [
      | inl same ↦ subst (λ (z : ℤ). makes_number_true values z ≡ false)
          ((Decides-int_eq m.code l.code).0 same) parts.0
      | inr later ↦ among_false values set l parts.1 later
    ]

-- a literal that stands in a list adds nothing to its truth
among_true : (values : List Bool) (set : List Lit) (l : Lit) → is_among set l ≡ true →
    any_true values set ≡ (makes_true values l || any_true values set)
among_true values set l h =
    elim (any_true values set) as (λ b. any_true values set ≡ b → b ≡ (makes_true values l || b)) [
      | true ↦ λ e. sym (or_right _ _ refl)
      | false ↦ λ e. rw (among_false values set l e h) refl
    ] refl

or_in : (s l r : Bool) → s ≡ (l || s) → (s || r) ≡ (s || (l || r))
or_in true l r h = refl
or_in false true r h = absurd (both_ways false refl h)
or_in false false r h = refl

or_out : (s l r t : Bool) → ((l || s) || r) ≡ ((l || s) || t) → (s || (l || r)) ≡ (s || (l || t))
or_out true l r t h = refl
or_out false true r t h = refl
or_out false false r t h = h

-- beside the list, the open literals say as much as the clause
open_beside : (values : List Bool) (set : List Lit) (clause : Clause) →
    (any_true values set || any_true values (open_literals set clause))
    ≡ (any_true values set || any_true values clause)
open_beside values set [] = refl
open_beside values set (l ∷ ls) =
    elim (is_among set l) as (λ b. is_among set l ≡ b
    → (any_true values set || any_true values
    (if b then open_literals set ls else l ∷ open_literals (l ∷ set) ls))
    ≡ (any_true values set || (makes_true values l || any_true values ls))) [
      | true ↦ λ shut. open_beside values set ls
          ∙ or_in (any_true values set) (makes_true values l) (any_true values ls)
          (among_true values set l shut)
      | false ↦ λ _. or_out (any_true values set) (makes_true values l) _ (any_true values ls)
          (open_beside values (l ∷ set) ls)
    ] refl

-- where the list is false, a clause is true exactly where one of its open literals is
open_true : (values : List Bool) (set : List Lit) (clause : Clause) → any_true values set ≡ false →
    any_true values (open_literals set clause) ≡ any_true values clause
open_true values set clause none = let beside = rw none at (open_beside values set clause) in beside

-- what the reading of a true clause can be: no conflict, and a unit only of a true literal
abbrev IsReadingOfTrue : List Bool → Reading → Type 0
IsReadingOfTrue values Conflict = ⊥
IsReadingOfTrue values (Unit l) = makes_true values l ≡ true
IsReadingOfTrue values Satisfied = ⊤
IsReadingOfTrue values Unresolved = ⊤

reading_by_true : (values : List Bool) (set ls : List Lit) → any_true values ls ≡ true →
    IsReadingOfTrue values (reading_by set ls)
reading_by_true values set [] h = absurd (both_ways false refl h)
reading_by_true values set (l ∷ []) h =
    elim (is_among set (negation l)) as
    (λ b. IsReadingOfTrue values (if b then Satisfied else Unit l)) [
      | true ↦ tt
      | false ↦ elim (or_cases _ _ h)
          [ inl here ↦ here | inr none ↦ absurd (both_ways false refl none) ]
    ]
reading_by_true values set (l ∷ m ∷ ls) h = tt

-- good hints do not lead on from false literals where each live clause is true
rup_sound : (values : List Bool) (live : Live) → AllTrue values live →
    (set : List Lit) (hints : List ℤ) → any_true values set ≡ false → rup live set hints ≡ None → ⊥
rup_sound values live all set [] none good = cc
rup_sound values live all set (h ∷ hints) none good =
    elim (named live h) as (λ o. ((c : Clause) → o ≡ Some c → any_true values c ≡ true) → follow set
    o hints (λ l. rup live (negation l ∷ set) hints) ≡ None → ⊥) [
      | None ↦ λ _ e. cc
      | Some clause ↦ λ true_if.
          elim (reading_of set clause) as
          (λ r. IsReadingOfTrue values r
          → lead_on r hints (λ l. rup live (negation l ∷ set) hints) ≡ None → ⊥) [
            | Conflict ↦ λ no _. no
            | Unit l ↦ λ is e. rup_sound values live all (negation l ∷ set) hints
                (rw (not_both values l.code is) none) e
            | Satisfied ↦ λ _ e. cc
            | Unresolved ↦ λ _ e. cc
          ] (reading_by_true values set (open_literals set clause)
          (open_true values set clause none ∙ true_if clause refl))
    ] (named_is (IsTrue values) live h all) good

-- a good added clause is true
added_true : (values : List Bool) (live : Live) → AllTrue values live →
    (clause : Clause) (hints : List ℤ) → rup live clause hints ≡ None → any_true values clause
    ≡ true
added_true values live all clause hints good =
    elim (any_true values clause) as (λ b. any_true values clause ≡ b → b ≡ true) [
      | true ↦ λ _. refl
      | false ↦ λ none. absurd (rup_sound values live all clause hints none good)
    ] refl

after_true : (values : List Bool) (live : Live) (step : Step) → AllTrue values live →
    fault live step ≡ None → AllTrue values (after live step)
after_true values live (Added id added hints) all good =
    each_put (IsTrue values) live id added all (added_true values live all added hints good)
after_true values live (Erased id ids) all good = each_erased (IsTrue values) live ids all

-- the empty clause is not good where each live clause is true
no_empty_clause : (values : List Bool) (live : Live) (step : Step) → AllTrue values live →
    fault live step ≡ None → is_empty_clause step ≡ true → ⊥
no_empty_clause values live (Added id [] hints) all good is =
    both_ways _ refl (added_true values live all [] hints good)
no_empty_clause values live (Added id (l ∷ ls) hints) all good is = both_ways _ refl is
no_empty_clause values live (Erased id ids) all good is = both_ways _ refl is

-- a true clause has a literal that the test finds
any_of : (values : List Bool) (ls : List Lit) (k : ℕ) (l : Lit) → k < length ls →
    slice_index_or ls k l ≡ l → makes_true values l ≡ true → any_true values ls ≡ true
any_of values [] k l within is h = absurd (omega arith)
any_of values (m ∷ ls) zero l within is h =
    or_left _ _ (subst (λ (x : Lit). makes_true values x ≡ true) (sym is) h)
any_of values (m ∷ ls) (suc k) l within is h =
    or_right _ _ (any_of values ls k l (omega arith) is h)

is_true : (values : List Bool) (clause : Clause) → IsTrueClause values clause →
    IsTrue values clause
is_true values clause here = any_of values clause here.0 here.1 here.2 here.3 here.4

-- where a log is accepted, the formula is unsatisfiable
pub refutes : (formula : Cnf) (log : List Step) → Accepts formula log → IsUnsat formula
refutes formula log accepted values satisfies =
    never_accepted fault (λ live steps. AllTrue values live)
    (λ live step steps all good. after_true values live step all good)
    (λ live step steps all good. no_empty_clause values live step all good) 1 (inputs formula) log
    (each_numbered (IsTrue values) 1 formula.clauses (All-weaker (IsTrueClause values)
    (IsTrue values) (is_true values) formula.clauses satisfies.each_clause)) accepted

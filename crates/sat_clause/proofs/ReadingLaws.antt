-- What a clause says where some literals are false, and where more are.
use Rattle.std.specs.Prelude.{if◌then◌else◌}
use Rattle.std.proofs.Common.{◌≡◌, ◌≢◌, ◌⊎◌, true, false, List, [], ◌∷◌, Option, None, Some, ℤ, Contains, All, refl, sym, ap, ◌∙◌, subst, inl, inr, suc, arith}
use Rattle.std.proofs.lemmas.Bool.{both_ways}
use Rattle.std.proofs.lemmas.List.Elements.{All-head, All-tail, All-cons, All-nil, All-weaker, All-contains}
use Rattle.sat_clause.specs.declared.literal.Lit.{Lit}
use Rattle.sat_clause.specs.declared.cause.Cause.{Cause}
use Rattle.sat_clause.specs.declared.reading.Reading.TheVariants.{Conflict, Unit, Satisfied}
use Rattle.sat_clause.specs.Literal.{Clause, negation, is_among}
use Rattle.sat_clause.specs.Rup.{Reads, follow, open_literals, reading_by, reading_of}
use Rattle.sat_clause.specs.Settled.{IsQuiet}
use Rattle.sat_clause.proofs.LiteralLaws.{among_cases, among_here, among_more}

-- the literal is false, or is this one
abbrev pub IsFalseOr : List Lit → Lit → Lit → Type 0
IsFalseOr set l m = (is_among set m ≡ true) ⊎ (m ≡ l)

-- all literals are false
abbrev pub AllFalse : List Lit → Clause → Type 0
AllFalse set c = All (λ m. is_among set m ≡ true) c

-- one literal is open, and each other one is false
pub record HasOneOpen (set : List Lit) (l : Lit) (c : Clause) : Type 0 where
  pub has : Contains c l
  pub free : is_among set l ≡ false
  pub rest : All (IsFalseOr set l) c

pub none_open : (s : List Lit) (c : Clause) → AllFalse s c → open_literals s c ≡ []
none_open s [] all = refl
none_open s (m ∷ ms) all =
    let P = λ (x : Lit). is_among s x ≡ true in
    rw (All-head P m ms all) (none_open s ms (All-tail P m ms all))

all_false : (s : List Lit) (c : Clause) → open_literals s c ≡ [] → AllFalse s c
all_false s [] none = All-nil (λ (x : Lit). is_among s x ≡ true)
all_false s (m ∷ ms) none =
    elim (is_among s m) as (λ b. is_among s m ≡ b
    → (if b then open_literals s ms else m ∷ open_literals (m ∷ s) ms) ≡ []
    → AllFalse s (m ∷ ms)) [
      | true ↦ λ is rest. All-cons (λ (x : Lit). is_among s x ≡ true) m ms is (all_false s ms rest)
      | false ↦ λ is rest. cc
    ] refl none

-- where one literal is open beside what is false and is false too, it is the one
false_or : (s : List Lit) (l : Lit) (c : Clause) → AllFalse (l ∷ s) c → All (IsFalseOr s l) c
false_or s l c all =
    All-weaker (λ (x : Lit). is_among (l ∷ s) x ≡ true) (IsFalseOr s l)
    (λ x is. elim (among_cases s l x is) [ inl here ↦ inr (sym here) | inr later ↦ inl later ]) c
    all

or_false : (s : List Lit) (l : Lit) (c : Clause) → All (IsFalseOr s l) c → AllFalse (l ∷ s) c
or_false s l c all =
    All-weaker (IsFalseOr s l) (λ (x : Lit). is_among (l ∷ s) x ≡ true)
    (λ x is. elim is [
      | inl later ↦ among_more s l x later
      | inr here ↦ subst (λ (y : Lit). is_among (l ∷ s) y ≡ true) (sym here) (among_here s l)
    ]) c all

one_open : (s : List Lit) (l : Lit) (c : Clause) → open_literals s c ≡ l ∷ [] → HasOneOpen s l c
one_open s l [] one = cc
one_open s l (m ∷ ms) one =
    elim (is_among s m) as (λ b. is_among s m ≡ b
    → (if b then open_literals s ms else m ∷ open_literals (m ∷ s) ms) ≡ l ∷ []
    → HasOneOpen s l (m ∷ ms)) [
      | true ↦ λ is rest.
          let later = one_open s l ms rest in
          record {
            has = (suc later.has.0, omega (arith, later.has.1), later.has.2);
            free = later.free;
            rest = All-cons (IsFalseOr s l) m ms (inl is) later.rest;
          }
      | false ↦ λ is rest.
          let same : m ≡ l = cc in
          let none : open_literals (m ∷ s) ms ≡ [] = cc in
          subst (λ (x : Lit). HasOneOpen s x (m ∷ ms)) same (record {
            has = (0, omega arith, refl);
            free = is;
            rest = All-cons (IsFalseOr s m) m ms (inr refl)
                (false_or s m ms (all_false (m ∷ s) ms none));
          })
    ] refl one

-- where each literal is false or is this open one, none is open or this one is
few_open : (s : List Lit) (l : Lit) (c : Clause) → is_among s l ≡ false → All (IsFalseOr s l) c →
    (open_literals s c ≡ []) ⊎ (open_literals s c ≡ l ∷ [])
few_open s l [] free all = inl refl
few_open s l (m ∷ ms) free all =
    let rest = All-tail (IsFalseOr s l) m ms all in
    elim (All-head (IsFalseOr s l) m ms all) [
      | inl is ↦ rw is (few_open s l ms free rest)
      | inr same ↦ rw (same, free, none_open (l ∷ s) ms (or_false s l ms rest)) (inr refl)
    ]

conflict_opens : (s ls : List Lit) → reading_by s ls ≡ Conflict → ls ≡ []
conflict_opens s [] e = refl
conflict_opens s (l ∷ []) e =
    elim (is_among s (negation l)) as
    (λ b. (if b then Satisfied else Unit l) ≡ Conflict → (l ∷ []) ≡ []) [
      | true ↦ λ e. cc
      | false ↦ λ e. cc
    ] e
conflict_opens s (l ∷ m ∷ ls) e = cc

unit_opens : (s ls : List Lit) (l : Lit) → reading_by s ls ≡ Unit l → (ls ≡ l ∷ [])
    × (is_among s (negation l) ≡ false)
unit_opens s [] l e = cc
unit_opens s (m ∷ []) l e =
    elim (is_among s (negation m)) as
    (λ b. is_among s (negation m) ≡ b → (if b then Satisfied else Unit m) ≡ Unit l
    → ((m ∷ []) ≡ l ∷ []) × (is_among s (negation l) ≡ false)) [
      | true ↦ λ is e. cc
      | false ↦ λ is e.
          let same : m ≡ l = cc in (
            ap (λ (x : Lit). x ∷ []) same,
            subst (λ (x : Lit). is_among s (negation x) ≡ false) same is,
          )
    ] refl e
unit_opens s (m ∷ n ∷ ls) l e = cc

-- a clause is false where all its literals are
pub conflict_all : (s : List Lit) (c : Clause) → reading_of s c ≡ Conflict → AllFalse s c
conflict_all s c e = all_false s c (conflict_opens s (open_literals s c) e)

pub all_conflict : (s : List Lit) (c : Clause) → AllFalse s c → reading_of s c ≡ Conflict
all_conflict s c all = rw (none_open s c all) refl

-- it makes a literal true where that one alone is open and is not true yet
pub unit_is_open : (s : List Lit) (l : Lit) (c : Clause) → reading_of s c ≡ Unit l →
    HasOneOpen s l c × (is_among s (negation l) ≡ false)
unit_is_open s l c e =
    let parts = unit_opens s (open_literals s c) l e in (one_open s l c parts.0, parts.1)

pub open_is_unit : (s : List Lit) (l : Lit) (c : Clause) → HasOneOpen s l c
    → is_among s (negation l) ≡ false →
    reading_of s c ≡ Unit l
open_is_unit s l c one not_true =
    elim (few_open s l c one.free one.rest) [
      | inl none ↦ absurd (both_ways _ one.free
          (All-contains (λ (x : Lit). is_among s x ≡ true) c l (all_false s c none) one.has))
      | inr is ↦ rw (is, not_true) refl
    ]

-- a clause with two open literals is quiet
pub two_open : (s : List Lit) (p q : Lit) (c : Clause) → Contains c p → Contains c q → p ≢ q →
    is_among s p ≡ false → is_among s q ≡ false → IsQuiet (reading_of s c)
two_open s p q c has_p has_q other p_open q_open = record {
  no_conflict =
      λ e. both_ways _ p_open (All-contains (λ (x : Lit). is_among s x ≡ true) c p
      (conflict_all s c e) has_p);
  no_unit = λ l e.
      let all = (unit_is_open s l c e).0.rest in
      let is = λ (m : Lit) (has : Contains c m) (free : is_among s m ≡ false).
      let same : m ≡ l = elim (All-contains (IsFalseOr s l) c m all has) [
        | inl out ↦ absurd (both_ways _ free out)
        | inr same ↦ same
      ] in same
      in other (is p has_p p_open ∙ sym (is q has_q q_open));
}

-- a clause whose literals are false or are this one literal, which is open, is not quiet
pub not_quiet : (s : List Lit) (l : Lit) (c : Clause) → is_among s l ≡ false
    → is_among s (negation l) ≡ false →
    All (IsFalseOr s l) c → IsQuiet (reading_of s c) → ⊥
not_quiet s l c free not_true all quiet =
    elim (few_open s l c free all) [
      | inl none ↦ quiet.no_conflict (rw none refl)
      | inr one ↦ quiet.no_unit l (rw (one, not_true) refl)
    ]

-- hints go on behind a clause that makes a literal true, and end well with a false one
pub follow_unit : (set : List Lit) (o : Option Clause) (l : Lit) (hints : List ℤ)
    (next : Lit → Option Cause) →
    Reads set o (Unit l) → follow set o hints next ≡ next l
follow_unit set None l hints next reads = absurd reads
follow_unit set (Some c) l hints next reads = rw reads refl

pub follow_conflict : (set : List Lit) (o : Option Clause) (next : Lit → Option Cause)
    → Reads set o Conflict →
    follow set o [] next ≡ None
follow_conflict set None next reads = absurd reads
follow_conflict set (Some c) next reads = rw reads refl

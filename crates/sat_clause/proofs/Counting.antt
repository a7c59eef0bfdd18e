-- Clauses as numbers with one digit of base three for each variable: how many different ones there
-- are.
use Rattle.std.proofs.Common.{◌≡◌, ◌≢◌, ℕ, zero, suc, ◌+◌, ◌*◌, ◌/◌, ◌^◌, eqb, ◌<◌, ◌≤◌, ℤ, pos, negsuc, Bool, true, false, cond, List, [], ◌∷◌, map, length, get_or, All, AllPairs, Contains, refl, sym, ap, ◌∙◌, arith, inl, inr}
use Rattle.std.specs.List.{IsDistinct, list_any}
use Rattle.std.proofs.lemmas.Map.Steps.{length-le_from_distinct_below}
use Rattle.std.proofs.lemmas.Map.Keys.{IsDistinct-from_apart}
use Rattle.std.proofs.lemmas.Bool.{both_ways, or_cases, cases_order, eqb-true, ne_eqb}
use Rattle.std.proofs.lemmas.List.Elements.{All-cons, Contains-get_or}
use Rattle.std.proofs.lemmas.List.Kept.{AllPairs-cons}
use Rattle.std.proofs.lemmas.List.{get_or-map, get_or_default, length-map}
use Rattle.std.proofs.lemmas.Nat.{mul-add-lt, div-mul-add}
use Rattle.std.proofs.lemmas.Bool.{false_from_ne_true}
use Rattle.std.proofs.Math.Nat.{pow-suc}
use borrow.Author.Count.{below_more}
use Rattle.sat_clause.specs.Literal.{Clause, is_positive, lit, variable, is_among, IsWithin}
use Rattle.sat_clause.proofs.LiteralLaws.{among_contains, contains_among}
use Rattle.sat_clause.specs.Learned.{IsSimple, SameLiterals, AreDifferent}

-- 1 for the variable itself, 2 for its negation and 0 where the clause has neither
abbrev digit : Clause → ℕ → ℕ
digit c n = cond (is_among c (lit (pos (suc n)))) 1 (cond (is_among c (lit (negsuc n))) 2 0)

-- the first n variables as digits of base three, the last of them first
abbrev number : Clause → ℕ → ℕ
number c zero = 0
number c (suc n) = digit c n * 3 ^ n + number c n

digit-small : (c : Clause) (n : ℕ) → digit c n ≤ 2
digit-small c n =
    elim (is_among c (lit (pos (suc n)))) as
    (λ b. cond b 1 (cond (is_among c (lit (negsuc n))) 2 0) ≤ 2) [
      | true ↦ omega arith
      | false ↦ elim (is_among c (lit (negsuc n))) as (λ b. cond b 2 0 ≤ 2)
          [ true ↦ omega arith | false ↦ omega arith ]
    ]

number-small : (c : Clause) (n : ℕ) → number c n < 3 ^ n
number-small c zero = omega arith
number-small c (suc n) =
    rw pow-suc (mul-add-lt (digit c n) (3 ^ n) (number c n) 3 (omega (arith, digit-small c n))
    (number-small c n))

-- a digit and what stands behind it are found from their number
same_digit : (d e p r s : ℕ) → r < p → s < p → d * p + r ≡ e * p + s → (d ≡ e) × (r ≡ s)
same_digit d e p r s rp sp is =
    let same : d ≡ e = sym (div-mul-add d p r rp) ∙ ap (λ x. x / p) is ∙ div-mul-add e p s sp in
    let parts : d * p ≡ e * p = ap (λ x. x * p) same in
    (same, omega arith)

same_digits : (c d : Clause) (n : ℕ) → number c n ≡ number d n → (i : ℕ) → i < n → digit c i
    ≡ digit d i
same_digits c d zero is i below = absurd (omega arith)
same_digits c d (suc n) is i below =
    let parts = same_digit (digit c n) (digit d n) (3 ^ n) (number c n) (number d n)
    (number-small c n) (number-small d n) is in
    below_more (λ k. digit c k ≡ digit d k) n (same_digits c d n parts.1) parts.0 i (omega arith)

-- no clause with each variable once has a variable and its negation
not_twice : (n : ℕ) (c : Clause) → IsSimple n c → (i : ℕ) → Contains c (lit (pos (suc i))) →
    Contains c (lit (negsuc i)) → ⊥
not_twice n c simple i (j, j_in, j_is) (k, k_in, k_is) =
    let yes = lit (pos (suc i)) in
    let no = lit (negsuc i) in
    let j_var : variable (get_or c j no) ≡ suc i =
    ap variable (get_or_default c j no yes j_in ∙ j_is) in
    let k_var : variable (get_or c k yes) ≡ suc i =
    ap variable (get_or_default c k yes no k_in ∙ k_is) in
    elim (cases_order j k) [
      | inl same ↦ both_ways _ (ap is_positive
          (sym j_is ∙ get_or_default c j yes no j_in ∙ ap (λ x. get_or c x no) same ∙ k_is)) refl
      | inr apart ↦ elim apart [
        | inl below ↦ simple.once j k yes below k_in (ap variable j_is ∙ sym k_var)
        | inr above ↦ simple.once k j no above j_in (ap variable k_is ∙ sym j_var)
      ]
    ]

digit_one : (plain negated : Bool) → ◌≡◌ {A = ℕ} (cond plain 1 (cond negated 2 0)) 1 → plain ≡ true
digit_one true negated is = refl
digit_one false true is = absurd (omega arith)
digit_one false false is = absurd (omega arith)

digit_two : (plain negated : Bool) → ◌≡◌ {A = ℕ} (cond plain 1 (cond negated 2 0)) 2 → negated
    ≡ true
digit_two true negated is = absurd (omega arith)
digit_two false true is = refl
digit_two false false is = absurd (omega arith)

-- the digits say which literals the clause has
digit-pos : (c : Clause) (i : ℕ) → digit c i ≡ 1 → is_among c (lit (pos (suc i))) ≡ true
digit-pos c i is = digit_one _ (is_among c (lit (negsuc i))) is

digit-neg : (c : Clause) (i : ℕ) → digit c i ≡ 2 → is_among c (lit (negsuc i)) ≡ true
digit-neg c i is = digit_two (is_among c (lit (pos (suc i)))) _ is

same_has : (n : ℕ) (c d : Clause) → IsSimple n c → number c n ≡ number d n → (z : ℤ) →
    IsWithin n (lit z) → is_among c (lit z) ≡ true → is_among d (lit z) ≡ true
same_has n c d simple same (pos zero) within has = absurd (omega (arith, within.0))
same_has n c d simple same (pos (suc i)) within has =
    digit-pos d i (sym (same_digits c d n same i (omega (arith, within.1))) ∙ rw has refl)
same_has n c d simple same (negsuc i) within has =
    let none : is_among c (lit (pos (suc i))) ≡ false =
    false_from_ne_true _ (λ plain. not_twice n c simple i (among_contains c _ plain)
    (among_contains c _ has)) in
    digit-neg d i (sym (same_digits c d n same i (omega (arith, within.1))) ∙ rw (none, has) refl)

-- clauses with one number have the same literals
same_number : (n : ℕ) (c d : Clause) → IsSimple n c → IsSimple n d → number c n ≡ number d n →
    SameLiterals c d
same_number n c d c_simple d_simple same = (
  λ k l within. among_contains d _
      (same_has n c d c_simple same _ (c_simple.within k l within)
      (contains_among c _ (Contains-get_or c k l within))),
  λ k l within. among_contains c _
      (same_has n d c d_simple (sym same) _ (d_simple.within k l within)
      (contains_among d _ (Contains-get_or d k l within))),
)

empty_simple : (n : ℕ) → IsSimple n []
empty_simple n =
    record { within = λ k d h. absurd (omega arith); once = λ i j d h within. absurd (omega arith) }

-- the empty clause differs from each that is not
empty_apart : (c : Clause) → c ≢ [] → SameLiterals [] c → ⊥
empty_apart [] not_empty same = not_empty refl
empty_apart (l ∷ c) not_empty same =
    let has = same.1 0 l (omega arith) in absurd (omega (arith, has.1))

numbers-small : (n : ℕ) (clauses : List Clause) (q : ℕ) →
    list_any (eqb q) (map (λ c. number c n) clauses) ≡ true → q < 3 ^ n
numbers-small n [] q h = absurd (both_ways _ refl h)
numbers-small n (c ∷ clauses) q h =
    elim (or_cases (eqb q (number c n)) _ h) [
      | inl here ↦ rw (eqb-true q (number c n) here) (number-small c n)
      | inr later ↦ numbers-small n clauses q later
    ]

-- different clauses have different numbers
numbers-apart : (n : ℕ) (clauses : List Clause) → All (IsSimple n) clauses →
    AllPairs (λ c d. ¬ SameLiterals c d) clauses → IsDistinct eqb (map (λ c. number c n) clauses)
numbers-apart n clauses simple apart = IsDistinct-from_apart eqb _ (λ i j e ij below.
    let f = λ (c : Clause). number c n in
    let j_in : j < length clauses = omega (arith, length-map clauses f) in
    let i_in : i < length clauses = omega arith in
    ne_eqb _ _ (λ is. apart i j [] ij j_in (same_number n _ _ (simple i [] i_in) (simple j [] j_in)
    (sym (get_or-map f clauses i [] e i_in) ∙ is ∙ get_or-map f clauses j [] e j_in))))

-- fewer than 3 ^ n different clauses of n variables are not empty
pub few_different : (n : ℕ) (clauses : List Clause) → AreDifferent n clauses
    → length clauses < 3 ^ n
few_different n clauses different =
    let all = [] ∷ clauses in
    let simple : All (IsSimple n) all =
    All-cons (IsSimple n) [] clauses (empty_simple n) different.simple in
    let apart : AllPairs (λ c d. ¬ SameLiterals c d) all =
    AllPairs-cons (λ c d. ¬ SameLiterals c d) [] clauses
    (λ k d h. empty_apart _ (different.not_empty k d h)) different.apart in
    let f = λ (c : Clause). number c n in
    let most : length (map f all) ≤ 3 ^ n =
    length-le_from_distinct_below (map f all) (3 ^ n) (numbers-apart n all simple apart)
    (numbers-small n all) in
    omega (arith, length-map all f)

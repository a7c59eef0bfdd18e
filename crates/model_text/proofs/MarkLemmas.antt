-- Marks of literals in two lists.
use Rattle.std.proofs.Common.{◌≡◌, ◌≢◌, ◌<◌, inl, inr, ℕ, zero, suc, ℤ, pos, negsuc, Bool, true, false, List, length, refl, sym, ap, ◌∙◌, arith}
use Rattle.std.specs.Prelude.{◌-◌, ◌||◌, slice_set, slice_index_or}
use Rattle.std.specs.Ordering.{int_eq}
use Rattle.std.proofs.lemmas.Bool.{cases_eq, false_from_ne_true}
use Rattle.std.proofs.lemmas.Bool.Decides.{Decides-int_eq}
use Rattle.std.proofs.lemmas.List.{get_or-set_other, get_or-set_same}
use Rattle.sat_clause.specs.declared.literal.Lit.{Lit}
use Rattle.sat_clause.specs.Literal.{IsWithin, is_positive, lit, negation, variable}
use Rattle.sat_clause.proofs.LiteralLaws.{negation-negation}
use Rattle.model_text.specs.Assignments.{mark_of}

pub or-no : (a b : Bool) → b ≡ false → (a || b) ≡ a
or-no true b e = refl
or-no false b e = e

pub or-yes : (a b : Bool) → b ≡ true → (a || b) ≡ true
or-yes true b e = refl
or-yes false b e = e

-- two tests that hold of the same are one
pub bool_same : (a b : Bool) → (a ≡ true → b ≡ true) → (b ≡ true → a ≡ true) → a ≡ b
bool_same true b there back = sym (there refl)
bool_same false true there back = back refl
bool_same false false there back = refl

pub int_eq-itself : (z : ℤ) → int_eq z z ≡ true
int_eq-itself z = (Decides-int_eq z z).1 refl

pub int_eq-other : (x z : ℤ) → x ≢ z → int_eq x z ≡ false
int_eq-other x z other =
    false_from_ne_true (int_eq x z) (λ is. other ((Decides-int_eq x z).0 is))

-- a literal is another's negation where that is its own
pub negation-turns : (l m : Lit) → int_eq l.code (negation m).code ≡ int_eq m.code (negation l).code
negation-turns l m =
    bool_same (int_eq l.code (negation m).code) (int_eq m.code (negation l).code) (turn l m)
    (turn m l)
  where
    turn : (a b : Lit) → int_eq a.code (negation b).code ≡ true
        → int_eq b.code (negation a).code ≡ true
    turn a b is =
        let same : a.code ≡ (negation b).code = (Decides-int_eq a.code (negation b).code).0 is in
        (Decides-int_eq b.code (negation a).code).1
        (ap (λ (l : Lit). l.code) (sym (negation-negation b))
        ∙ ap (λ z. (negation (lit z)).code) (sym same))

less : (n : ℕ) → suc n - 1 ≡ n
less n = omega arith

-- the mark of a variable, and of its negation
pub mark-pos : (positive negative : List Bool) (n : ℕ)
    → mark_of positive negative (lit (pos (suc n))) ≡ slice_index_or positive n false
mark-pos positive negative n = ap (λ k. slice_index_or positive k false) (less n)

pub mark-neg : (positive negative : List Bool) (n : ℕ)
    → mark_of positive negative (lit (negsuc n)) ≡ slice_index_or negative n false
mark-neg positive negative n = ap (λ k. slice_index_or negative k false) (less n)

-- a place that is set, and another one
set-one : (marks : List Bool) (x z : ℤ) (m n : ℕ) → m < length marks → (n ≡ m → x ≡ z)
    → (x ≡ z → n ≡ m)
    → slice_index_or (slice_set marks m true) n false ≡ (slice_index_or marks n false || int_eq x z)
set-one marks x z m n inside there back = elim (cases_eq n m) [
  | inl same ↦ ap (λ k. slice_index_or (slice_set marks m true) k false) same
      ∙ get_or-set_same marks m true false inside
      ∙ sym (or-yes (slice_index_or marks n false) (int_eq x z)
      ((Decides-int_eq x z).1 (there same)))
  | inr other ↦ get_or-set_other marks m n true false other
      ∙ sym (or-no (slice_index_or marks n false) (int_eq x z)
      (int_eq-other x z (λ e. other (back e))))
]

module _ (positive negative : List Bool) where
  -- one more positive literal is marked
  pub marked-positive : (literal l : Lit)
      → is_positive literal ≡ true → IsWithin (length positive) literal
      → IsWithin (length positive) l
      → mark_of (slice_set positive (variable literal - 1) true) negative l
      ≡ (mark_of positive negative l || int_eq literal.code l.code)
  marked-positive literal l sign inside within = go literal.code l.code sign inside within
    where
      go : (x z : ℤ) → is_positive (lit x) ≡ true → IsWithin (length positive) (lit x)
          → IsWithin (length positive) (lit z)
          → mark_of (slice_set positive (variable (lit x) - 1) true) negative (lit z)
          ≡ (mark_of positive negative (lit z) || int_eq x z)
      go (pos zero) z sign inside within = absurd (let clash : false ≡ true = sign in cc)
      go (negsuc m) z sign inside within = absurd (let clash : false ≡ true = sign in cc)
      go (pos (suc m)) (pos zero) sign inside within = absurd (omega (arith, within.0))
      go (pos (suc m)) (negsuc n) sign inside within =
          mark-neg (slice_set positive (suc m - 1) true) negative n
          ∙ sym (mark-neg positive negative n)
          ∙ sym (or-no (mark_of positive negative (lit (negsuc n)))
          (int_eq (pos (suc m)) (negsuc n)) (int_eq-other (pos (suc m)) (negsuc n) (λ e. cc)))
      go (pos (suc m)) (pos (suc n)) sign inside within =
          mark-pos (slice_set positive (suc m - 1) true) negative n
          ∙ ap (λ (k : ℕ). slice_index_or (slice_set positive k true) n false) (less m)
          ∙ set-one positive (pos (suc m)) (pos (suc n)) m n (omega (arith, inside.1))
          (λ same. ap (λ k. pos (suc k)) (sym same)) (λ e. let h : suc m ≡ suc n = cc in
          omega (arith, h))
          ∙ ap (λ b. b || int_eq (pos (suc m)) (pos (suc n))) (sym (mark-pos positive negative n))

  -- one more negation is marked
  pub marked-negative : (literal l : Lit)
      → is_positive literal ≡ false → length negative ≡ length positive
      → IsWithin (length positive) literal → IsWithin (length positive) l
      → mark_of positive (slice_set negative (variable literal - 1) true) l
      ≡ (mark_of positive negative l || int_eq literal.code l.code)
  marked-negative literal l sign alike inside within =
      go literal.code l.code sign inside within
    where
      go : (x z : ℤ) → is_positive (lit x) ≡ false → IsWithin (length positive) (lit x)
          → IsWithin (length positive) (lit z)
          → mark_of positive (slice_set negative (variable (lit x) - 1) true) (lit z)
          ≡ (mark_of positive negative (lit z) || int_eq x z)
      go (pos zero) z sign inside within = absurd (omega (arith, inside.0))
      go (pos (suc m)) z sign inside within = absurd (let clash : true ≡ false = sign in cc)
      go (negsuc m) (pos zero) sign inside within = absurd (omega (arith, within.0))
      go (negsuc m) (pos (suc n)) sign inside within =
          mark-pos positive (slice_set negative (suc m - 1) true) n
          ∙ sym (mark-pos positive negative n)
          ∙ sym (or-no (mark_of positive negative (lit (pos (suc n))))
          (int_eq (negsuc m) (pos (suc n))) (int_eq-other (negsuc m) (pos (suc n)) (λ e. cc)))
      go (negsuc m) (negsuc n) sign inside within =
          mark-neg positive (slice_set negative (suc m - 1) true) n
          ∙ ap (λ (k : ℕ). slice_index_or (slice_set negative k true) n false) (less m)
          ∙ set-one negative (negsuc m) (negsuc n) m n (omega (arith, inside.1, alike))
          (λ same. ap negsuc (sym same)) (λ e. let h : m ≡ n = cc in sym h)
          ∙ ap (λ b. b || int_eq (negsuc m) (negsuc n)) (sym (mark-neg positive negative n))

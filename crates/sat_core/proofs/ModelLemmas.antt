-- Where the clauses are propagated and each literal is false or true, the values satisfy them.
use Rattle.std.proofs.Common.{inl, inr, ◌≡◌, ◌⊎◌, ℕ, suc, Bool, true, false, List, [], ◌∷◌, Any, All, refl, arith}
use Rattle.std.specs.Prelude.{IfOk, IsTrue, OnErr, Result, Ok, Err}
use Rattle.std.proofs.lemmas.List.Elements.{All-head, All-tail, All-cons, All-nil}
use Rattle.sat_clause.specs.declared.literal.Lit.{Lit}
use Rattle.sat_clause.specs.Formula.{IsTrueClause, makes_true}
use Rattle.sat_clause.specs.Rup.{reading_of}
use Rattle.sat_clause.specs.Literal.{Clause, IsWithin, is_among}
use Rattle.sat_clause.specs.Settled.{IsQuiet}
use Rattle.sat_clause.proofs.ReadingLaws.{none_open}

any-cons : {X : Type 0} (P : X → Type 0) (x : X) (xs : List X) → Any P xs → Any P (x ∷ xs)
any-cons P x xs (k, y, within, at, is) = (suc k, y, omega arith, at, is)

-- each literal is false, or one of them is true
false_or_true : (vars : ℕ) (values : List Bool) (set : List Lit) (c : Clause) →
    ((l : Lit) → IsWithin vars l → is_among set l ≡ false → IsTrue (makes_true values l)) → All
    (IsWithin vars) c →
    (All (λ l. is_among set l ≡ true) c) ⊎ IsTrueClause values c
false_or_true vars values set [] truth within = inl (All-nil (λ (x : Lit). is_among set x ≡ true))
false_or_true vars values set (l ∷ ls) truth within =
    elim (is_among set l) as (λ b. is_among set l ≡ b →
    (All (λ (x : Lit). is_among set x ≡ true) (l ∷ ls)) ⊎ IsTrueClause values (l ∷ ls)) [
      | true ↦ λ is. elim (false_or_true vars values set ls truth
          (All-tail (IsWithin vars) l ls within)) [
            | inl all ↦ inl (All-cons (λ (x : Lit). is_among set x ≡ true) l ls is all)
            | inr some ↦ inr (any-cons (λ (x : Lit). IsTrue (makes_true values x)) l ls some)
          ]
      | false ↦ λ is. inr (
        0,
        l,
        omega arith,
        refl,
        truth l (All-head (IsWithin vars) l ls within)
            is,
      )
    ] refl

pub quiet_is_true : (vars : ℕ) (values : List Bool) (set : List Lit) (c : Clause) →
    ((l : Lit) → IsWithin vars l → is_among set l ≡ false → IsTrue (makes_true values l)) → All
    (IsWithin vars) c →
    IsQuiet (reading_of set c) → IsTrueClause values c
quiet_is_true vars values set c truth within quiet =
    elim (false_or_true vars values set c truth within) [
      | inl all ↦ absurd (quiet.no_conflict (rw (none_open set c all) refl))
      | inr some ↦ some
    ]

-- two facts of a value that may be there give a third
pub if_ok_both : {X Y : Type 0} (r : Result X Y) (P Q R : X → Type 0) → ((x : X) → P x → Q x → R x)
    →
    IfOk r P → IfOk r Q → IfOk r R
if_ok_both (Ok x) P Q R both p q = both x p q
if_ok_both (Err e) P Q R both p q = tt

-- what holds anyway holds where there is an error
pub on_err_anyway : {X E P : Type 0} (r : Result X E) → P → OnErr r P
on_err_anyway (Ok x) holds = tt
on_err_anyway (Err e) holds = holds

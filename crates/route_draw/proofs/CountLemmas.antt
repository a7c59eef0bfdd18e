-- What passes a test among the elements that a loop has gone through.
use Rattle.std.proofs.Common.{◌≡◌, ℕ, zero, suc, ◌+◌, Bool, true, false, List, [], ◌∷◌, ◌++◌, length, length-append, take, refl, sym, ap, ◌∙◌, ◌≤◌, add-one, arith}
use Rattle.std.specs.Prelude.{◌||◌, Some, filter, slice_get, if◌then◌else◌}
use Rattle.std.specs.List.{list_any}
use Rattle.std.proofs.Math.Seq.{take-length}
use Rattle.std.proofs.lemmas.Bool.{false≢true}
use Rattle.std.proofs.lemmas.List.Elements.{filter-append}
use Rattle.list_laws.proofs.Places.{take-get}

-- one element more passes or does not
pub count-next : {T : Type 0} (p : T → Bool) (xs : List T) (i : ℕ) (x : T)
    → slice_get xs i ≡ Some x
    → length (filter p (take (i + 1) xs))
    ≡ length (filter p (take i xs)) + (if p x then 1 else 0)
count-next {T} p xs i x at =
    ap (λ (ys : List T). length (filter p ys))
    (ap (λ (n : ℕ). take n xs) (add-one i) ∙ take-get xs i x at)
    ∙ ap length (filter-append p (take i xs) (x ∷ []))
    ∙ length-append (filter p (take i xs)) (filter p (x ∷ []))
    ∙ ap (λ (n : ℕ). length (filter p (take i xs)) + n) (one (p x) refl)
  where
    one : (b : Bool) → p x ≡ b → length (filter p (x ∷ [])) ≡ (if b then 1 else 0)
    one true e = rw e refl
    one false e = rw e refl

-- all elements were gone through
pub count-whole : {T : Type 0} (p : T → Bool) (xs : List T) (i count : ℕ) → i ≡ length xs
    → count ≡ length (filter p (take i xs)) → count ≡ length (filter p xs)
count-whole {T} p xs i count e is =
    is ∙ ap (λ (ys : List T). length (filter p ys))
    (ap (λ (n : ℕ). take n xs) e ∙ take-length xs)

-- an element that passes is found
pub any-here : {T : Type 0} (p : T → Bool) (xs : List T) (i : ℕ) (x : T)
    → slice_get xs i ≡ Some x → p x ≡ true → list_any p xs ≡ true
any-here p [] i x at passes = cc
any-here p (y ∷ ys) zero x at passes =
    let same : y ≡ x = cc in rw (same, passes) refl
any-here p (y ∷ ys) (suc i) x at passes = go (p y) (any-here p ys i x at passes)
  where
    go : (b : Bool) → list_any p ys ≡ true → (b || list_any p ys) ≡ true
    go true later = refl
    go false later = later

any-push : {T : Type 0} (p : T → Bool) (xs : List T) (x : T) → p x ≡ false
    → list_any p xs ≡ false → list_any p (xs ++ x ∷ []) ≡ false
any-push p [] x fails none = rw fails refl
any-push p (y ∷ ys) x fails none = by (p y) none (any-push p ys x fails)
  where
    by : (b : Bool) → (b || list_any p ys) ≡ false
        → (list_any p ys ≡ false → list_any p (ys ++ x ∷ []) ≡ false)
        → (b || list_any p (ys ++ x ∷ [])) ≡ false
    by true e later = absurd (false≢true (sym e))
    by false e later = later e

-- one element more that does not pass
pub any-next : {T : Type 0} (p : T → Bool) (xs : List T) (i : ℕ) (x : T)
    → slice_get xs i ≡ Some x → p x ≡ false → list_any p (take i xs) ≡ false
    → list_any p (take (i + 1) xs) ≡ false
any-next {T} p xs i x at fails none =
    ap (λ (ys : List T). list_any p ys)
    (ap (λ (n : ℕ). take n xs) (add-one i) ∙ take-get xs i x at)
    ∙ any-push p (take i xs) x fails none

-- no element passes
pub any-whole : {T : Type 0} (p : T → Bool) (xs : List T) (i : ℕ) → i ≡ length xs
    → list_any p (take i xs) ≡ false → list_any p xs ≡ false
any-whole {T} p xs i e none =
    sym (ap (list_any p) (ap (λ (n : ℕ). take n xs) e ∙ take-length xs)) ∙ none

-- what is 1 or 0 is at most 1
pub at-most-one : (b : Bool) (n : ℕ) → n ≡ (if b then 1 else 0) → n ≤ 1
at-most-one true n e = omega (arith, e)
at-most-one false n e = omega (arith, e)

-- Counts over numbers and lines, with one more.
use Rattle.std.proofs.Common.{refl, ◌≡◌, ℕ, suc, ◌+◌, Bool, true, false, Option, Some, None, List, [], ◌∷◌, ◌++◌, length, take, ap, ◌∙◌, arith, add-one, length-append}
use Rattle.std.specs.Prelude.{filter, filter_map, is_some, slice_get, sum_by, option_and_then}
use Rattle.std.specs.List.{last_or}
use Rattle.std.specs.Option.{option_to_list}
use Rattle.std.proofs.lemmas.List.{append-nil}
use Rattle.std.proofs.lemmas.List.Elements.{filter-append}
use Rattle.std.proofs.lemmas.List.Sums.{sum_by-append, sum_by-cons}
use Rattle.list_laws.proofs.Places.{take-get}
use Rattle.list_laws.proofs.Ranges.{range-push}
use Rattle.fpga_types.specs.Slots.{adjacent}
use Rattle.fpga_types.specs.declared.route.Elem.{Elem}
use Rattle.fpga_bounds.proofs.StepLemmas.{adjacent-push}
use Rattle.route_encode.specs.Encoding.{below}

pub below-push : (n : ℕ) → below (n + 1) ≡ below n ++ n ∷ []
below-push n =
    let more : n + 1 ≡ suc n = omega arith in
    let last : 0 + n ≡ n = omega arith in
    ap below more ∙ range-push 0 n ∙ ap (λ (m : ℕ). below n ++ m ∷ []) last

-- how many numbers pass a test, with one number more
module _ (p : ℕ → Bool) (n : ℕ) where
  pub one-passes : p n ≡ true → length (filter p (below (n + 1))) ≡ length (filter p (below n)) + 1
  one-passes is =
      ap (λ ks. length (filter p ks)) (below-push n)
      ∙ ap length (filter-append p (below n) (n ∷ []))
      ∙ rw is (length-append (filter p (below n)) (n ∷ []))

  pub none-passes : p n ≡ false → length (filter p (below (n + 1))) ≡ length (filter p (below n))
  none-passes is =
      ap (λ ks. length (filter p ks)) (below-push n)
      ∙ ap length (filter-append p (below n) (n ∷ []))
      ∙ rw is (length-append (filter p (below n)) [] ∙ (omega arith))

  -- those that pass
  pub kept-more : p n ≡ true → filter p (below (n + 1)) ≡ filter p (below n) ++ n ∷ []
  kept-more is = ap (filter p) (below-push n) ∙ filter-append p (below n) (n ∷ []) ∙ rw is refl

  pub kept-same : p n ≡ false → filter p (below (n + 1)) ≡ filter p (below n)
  kept-same is = ap (filter p) (below-push n) ∙ filter-append p (below n) (n ∷ [])
      ∙ rw is (append-nil (filter p (below n)))

-- a sum over numbers, with one number more
pub sum-more : (m : ℕ → ℕ) (n : ℕ) → sum_by m (below (n + 1)) ≡ sum_by m (below n) + m n
sum-more m n =
    let last : sum_by m (n ∷ []) ≡ m n = sum_by-cons m n [] ∙ (omega arith) in
    ap (sum_by m) (below-push n) ∙ sum_by-append m (below n) (n ∷ [])
    ∙ ap (λ k. sum_by m (below n) + k) last

-- what neighbours make, with one line more
pub neighbours-counted : {B : Type 0} (f : Elem × Elem → Option B) (elems : List Elem) (i : ℕ)
    (e : Elem) (previous : Option Elem) → slice_get elems i ≡ Some e
    → previous ≡ last_or None (take i elems)
    → filter_map f (adjacent (take (i + 1) elems)) ≡ filter_map f (adjacent (take i elems))
    ++ option_to_list (option_and_then (λ other. f (other, e)) previous)
neighbours-counted f elems i e previous here before =
    rw (add-one, take-get elems i e here, before) (adjacent-push f (take i elems) e)

pub length-some : {T : Type 0} (xs : List T) (o : Option T) → is_some o ≡ true
    → length (xs ++ option_to_list o) ≡ length xs + 1
length-some xs None h = cc
length-some xs (Some x) h = length-append xs (x ∷ [])

pub length-none : {T : Type 0} (xs : List T) (o : Option T) → is_some o ≡ false
    → length (xs ++ option_to_list o) ≡ length xs
length-none xs None h = length-append xs [] ∙ (omega arith)
length-none xs (Some x) h = cc

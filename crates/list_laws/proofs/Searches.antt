-- The first place where a test passes.
use Rattle.std.proofs.Common.{◌≡◌, ℕ, ◌+◌, ◌<◌, Bool, true, false, cond, Option, Some, None, List, [], ◌∷◌, ◌++◌, length, get_or, refl, sym, ap, ◌∙◌, arith, add-zero}
use Rattle.std.specs.Prelude.{◌||◌, IfSome, not, filter, find, is_some, nat_lt, option_and_then, slice_get}
use Rattle.std.specs.List.{list_any, position_from, position_or_len}
use Rattle.std.specs.Option.{option_or}
use Rattle.std.proofs.lemmas.Bool.{false≢true}
use Rattle.std.proofs.lemmas.Bool.Decides.{nat_tests}
use Rattle.std.proofs.lemmas.Iterator.Adapters.{position_from-zero}
use Rattle.std.proofs.lemmas.List.Folds.{find_at}
use Rattle.std.proofs.lemmas.List.Sums.{passes_at_first, position_or_len_is}
use Rattle.std.proofs.lemmas.Option.{slice_get_past}

-- a place is found exactly where the test passes somewhere
pub position-any : {T : Type 0} (p : T → Bool) (i : ℕ) (xs : List T) →
    is_some (position_from p i xs) ≡ list_any p xs
position-any p i [] = refl
position-any {T} p i (x ∷ xs) = rw (← position-any p (i + 1) xs) (go (p x))
  where
    go : (b : Bool) → is_some (cond b (Some i) (position_from p (i + 1) xs))
        ≡ (b || is_some (position_from p (i + 1) xs))
    go true = refl
    go false = refl

-- an element more is found where no earlier one was
pub position-push : {T : Type 0} (p : T → Bool) (i : ℕ) (xs : List T) (x : T) →
    position_from p i (xs ++ x ∷ [])
    ≡ option_or (position_from p i xs) (cond (p x) (Some (i + length xs)) None)
position-push p i [] x = rw add-zero refl
position-push {T} p i (y ∷ ys) x = rw (position-push p (i + 1) ys x) (go (p y))
  where
    go : (b : Bool) →
        cond b (Some i)
        (option_or (position_from p (i + 1) ys) (cond (p x) (Some (i + 1 + length ys)) None))
        ≡ option_or (cond b (Some i) (position_from p (i + 1) ys))
        (cond (p x) (Some (i + length (y ∷ ys))) None)
    go true = refl
    go false = let e : i + 1 + length ys ≡ i + length (y ∷ ys) = omega arith in rw e refl

-- where the test passes somewhere, its first place is one of the list
pub position-below : {T : Type 0} (p : T → Bool) (xs : List T) → list_any p xs ≡ true →
    position_or_len p xs < length xs
position-below p [] h = absurd (false≢true h)
position-below {T} p (x ∷ xs) h = go (p x) h (position-below p xs)
  where
    go : (b : Bool) → (b || list_any p xs) ≡ true →
        (list_any p xs ≡ true → position_or_len p xs < length xs) →
        cond (not b) (1 + position_or_len p xs) 0 < length (x ∷ xs)
    go true e more = omega arith
    go false e more = let g = more e in omega (arith, g)

-- where no element passes, none is kept
pub filter-none : {T : Type 0} (p : T → Bool) (xs : List T) → find p xs ≡ None → filter p xs ≡ []
filter-none p [] h = refl
filter-none {T} p (x ∷ xs) h = go (p x) h (filter-none p xs)
  where
    go : (b : Bool) → cond b (Some x) (find p xs) ≡ None → (find p xs ≡ None → filter p xs ≡ []) →
        cond b (x ∷ filter p xs) (filter p xs) ≡ []
    go true e more = cc
    go false e more = more e

-- a number that is found is the first place where the test passes: what stands there passes, it is
-- what `find` finds, and no other number is found where nothing before it passes
module _ {T : Type 0} (p : T → Bool) (xs : List T) where
  found : (n : ℕ) → position_from p 0 xs ≡ Some n →
      (position_or_len p xs ≡ n) × (position_or_len p xs < length xs)
  found n is = go (nat_lt (position_or_len p xs) (length xs)) refl (position_from-zero p xs ∙ is)
    where
      go : (b : Bool) → nat_lt (position_or_len p xs) (length xs) ≡ b →
          cond b (Some (position_or_len p xs)) None ≡ Some n →
          (position_or_len p xs ≡ n) × (position_or_len p xs < length xs)
      go true within e = (cc, grind (arith, nat_tests))
      go false past e = absurd (let clash : None ≡ Some n = e in cc)

  pub position-within : (n : ℕ) → position_from p 0 xs ≡ Some n → n < length xs
  position-within n is = let f = found n is in omega (arith, f.0, f.1)

  pub if-position-within : (number : Option ℕ) → number ≡ position_from p 0 xs →
      IfSome number (λ n. n < length xs)
  if-position-within None is = tt
  if-position-within (Some n) is = position-within n (sym is)

  pub position-passes : (n : ℕ) (d : T) → position_from p 0 xs ≡ Some n → p (get_or xs n d) ≡ true
  position-passes n d is = let f = found n is in rw (sym f.0) (passes_at_first p xs d f.1)

  pub find-position : find p xs ≡ option_and_then (slice_get xs) (position_from p 0 xs)
  find-position = rw (find_at p xs, ← position_from-zero p xs)
      (go (nat_lt (position_or_len p xs) (length xs)) refl)
    where
      go : (b : Bool) → nat_lt (position_or_len p xs) (length xs) ≡ b →
          slice_get xs (position_or_len p xs)
          ≡ option_and_then (slice_get xs) (cond b (Some (position_or_len p xs)) None)
      go true within = refl
      go false past = slice_get_past xs (position_or_len p xs) (grind (arith, nat_tests))

  pub position-first : (i : ℕ) (d : T) → i < length xs →
      ((k : ℕ) → k < i → p (get_or xs k d) ≡ false) → p (get_or xs i d) ≡ true →
      position_from p 0 xs ≡ Some i
  position-first i d within before here =
      let is : position_or_len p xs ≡ i =
      position_or_len_is p xs i d (omega arith) before (λ _. here) in
      sym (position_from-zero p xs) ∙ go (nat_lt (position_or_len p xs) (length xs)) refl is
    where
      go : (b : Bool) → nat_lt (position_or_len p xs) (length xs) ≡ b →
          position_or_len p xs ≡ i → cond b (Some (position_or_len p xs)) None ≡ Some i
      go true e is = ap (λ n. Some n) is
      go false e is = absurd (grind (arith, nat_tests))

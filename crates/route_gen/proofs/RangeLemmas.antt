-- What is made of the numbers of a range, one by one.
use Rattle.std.proofs.Common.{◌≡◌, ◌≢◌, ℕ, zero, suc, ◌+◌, ◌<◌, ◌≤◌, Bool, true, false, cond, Some, None, List, [], ◌∷◌, ◌++◌, refl, sym, ap, ◌∙◌, inl, inr, arith, append_assoc, zero-add, add-one, take, length, get_or}
use Rattle.std.specs.Prelude.{find, flat_map, map, slice_get, slice_set}
use Rattle.std.specs.List.{enumerate_from, range_with_len}
use Rattle.std.proofs.lemmas.Bool.{cases_eq}
use Rattle.std.proofs.lemmas.Grind.{flat_map-append}
use Rattle.std.proofs.lemmas.List.{append-nil, map-append}
use Rattle.std.proofs.lemmas.List.FromFn.{map-range_with_len_more}
use Rattle.list_laws.proofs.FrontParts.{made-next}
use Rattle.list_laws.proofs.Numbered.{numbered-here}
use Rattle.list_laws.proofs.Places.{get-there, take-get}
use Rattle.route_gen.specs.Draws.{entry}

-- a range with one number more
range-next : (a n : ℕ) → range_with_len a (suc n) ≡ range_with_len a n ++ (a + n) ∷ []
range-next a zero = let e : a ≡ a + 0 = omega arith in ap (λ (m : ℕ). m ∷ []) e
range-next a (suc n) = grind (arith, (range-next (a + 1) n))

pub range-more : (a n : ℕ) → range_with_len a (n + 1) ≡ range_with_len a n ++ (a + n) ∷ []
range-more a n = ap (range_with_len a) (add-one n) ∙ range-next a n

-- what the numbers of a range make, and what the next one makes
pub made-more : {T : Type 0} (f : ℕ → List T) (n : ℕ) →
    flat_map f (range_with_len 0 (n + 1)) ≡ flat_map f (range_with_len 0 n) ++ f n
made-more {T} f n = grind (arith, range-more, flat_map-append, append-nil)

-- where two tables differ at one place alone, the one is the other with that entry put in
pub entry-put : {T : Type 0} (f g : ℕ → T) (a n i : ℕ) → i < n →
    ((j : ℕ) → j ≢ a + i → f j ≡ g j) →
    slice_set (map f (range_with_len a n)) i (g (a + i)) ≡ map g (range_with_len a n)
entry-put f g a zero i inside same = absurd (omega arith)
entry-put {T} f g a (suc n) zero inside same =
    let e : a + 0 ≡ a = omega arith in
    λ k. g (e k) ∷ behind n (a + 1) (omega arith) k
  where
    behind : (n b : ℕ) → a < b → map f (range_with_len b n) ≡ map g (range_with_len b n)
    behind zero b above = refl
    behind (suc n) b above = grind (arith, (behind n (b + 1) (omega arith)))
entry-put {T} f g a (suc n) (suc i) inside same =
    grind (
      arith,
      (entry-put f g (a + 1) n i (omega arith) (λ j other. same j (λ e. other (omega
          (arith, e))))),
    )

-- a text that holds what the first numbers make, and the text with what the next one makes
pub text_more : {T : Type 0} (f : ℕ → List T) (n : ℕ) (start now next : List T) →
    now ≡ start ++ flat_map f (range_with_len 0 n) → next ≡ now ++ f n →
    next ≡ start ++ flat_map f (range_with_len 0 (n + 1))
text_more {T} f n start now next front more = grind (arith, append_assoc, made-more)

-- a row of what the first numbers make, and the row with what the next one makes
pub row_more : {T : Type 0} (f : ℕ → T) (n : ℕ) (start now next : List T) →
    now ≡ start ++ map f (range_with_len 0 n) → next ≡ now ++ f n ∷ [] →
    next ≡ start ++ map f (range_with_len 0 (n + 1))
row_more {T} f n start now next front more =
    grind (arith, append_assoc, map-range_with_len_more, zero-add)

-- what the first elements become, and what the next one becomes
pub row_next : {A B : Type 0} (f : A → B) (xs : List A) (i : ℕ) (x : A) → slice_get xs i ≡ Some x →
    map f (take (i + 1) xs) ≡ map f (take i xs) ++ f x ∷ []
row_next f xs i x at =
    ap (λ (n : ℕ). map f (take n xs)) (add-one i)
    ∙ ap (map f) (take-get xs i x at) ∙ map-append f (take i xs) (x ∷ [])

module _ (p : ℕ → Bool) where
  -- the first number of a range that passes is found
  pub find-range : (a n i : ℕ) → a ≤ i → i < a + n → ((k : ℕ) → a ≤ k → k < i → p k ≡ false) →
      p i ≡ true → find p (range_with_len a n) ≡ Some i
  find-range a zero i above below before here = absurd (omega arith)
  find-range a (suc n) i above below before here = elim (cases_eq a i) [
    | inl first ↦
        let passes : p a ≡ true = ap p first ∙ here in
        ap (λ (b : Bool). cond b (Some a) (find p (range_with_len (a + 1) n))) passes
        ∙ ap (λ (k : ℕ). Some k) first
    | inr later ↦
        let fails : p a ≡ false = before a (omega arith) (omega (arith, later)) in
        ap (λ (b : Bool). cond b (Some a) (find p (range_with_len (a + 1) n))) fails
        ∙ find-range (a + 1) n i (omega (arith, later)) (omega arith)
        (λ k low high. before k (omega arith) high) here
  ]

  -- and none where none passes
  pub find-none : (a n : ℕ) → ((k : ℕ) → a ≤ k → k < a + n → p k ≡ false) →
      find p (range_with_len a n) ≡ None
  find-none a zero none = refl
  find-none a (suc n) none =
      grind (arith, (find-none (a + 1) n (λ k low high. none k (omega arith) (omega arith))))

-- what the first elements make with their numbers, and what the next one makes
pub numbered_next : {A B : Type 0} (f : ℕ × A → List B) (xs : List A) (i : ℕ) (x : A) →
    i < length xs → x ≡ get_or xs i x →
    flat_map f (take (i + 1) (enumerate_from 0 xs))
    ≡ flat_map f (take i (enumerate_from 0 xs)) ++ f (i, x)
numbered_next {A} {B} f xs i x inside is =
    ap (λ (n : ℕ). flat_map f (take n (enumerate_from 0 xs))) (add-one i)
    ∙ made-next f (enumerate_from 0 xs) i (0 + i, x)
    (numbered-here 0 xs i x (get-there xs i x x inside is))
    ∙ ap (λ (n : ℕ). flat_map f (take i (enumerate_from 0 xs)) ++ f (n, x)) (zero-add i)

-- what stands in a table, as a loop has it at hand
pub entry-is : (table : List (List ℕ)) (block : ℕ) (nets : List ℕ) → block < length table →
    nets ≡ get_or table block nets → entry table block ≡ nets
entry-is [] block nets inside is = absurd (omega arith)
entry-is (first ∷ rest) zero nets inside is = sym is
entry-is (first ∷ rest) (suc block) nets inside is = entry-is rest block nets (omega arith) is

-- a row of what the first elements become with their numbers, and the row with the next one
pub numbered_row : {A B : Type 0} (f : ℕ × A → B) (xs : List A) (i : ℕ) (d : A)
    (now next : List B) (made : B) → i < length xs → now ≡ map f (take i (enumerate_from 0 xs)) →
    made ≡ f (i, get_or xs i d) → next ≡ now ++ made ∷ [] →
    next ≡ map f (take (i + 1) (enumerate_from 0 xs))
numbered_row {A} {B} f xs i d now next made inside front is more =
    more ∙ (λ k. front k ++ is k ∷ [])
    ∙ sym (row_next f (enumerate_from 0 xs) i (i, get_or xs i d)
    (numbered-here 0 xs i (get_or xs i d) (get-there xs i (get_or xs i d) d inside refl)
    ∙ ap (λ (n : ℕ). Some (n, get_or xs i d)) (zero-add i)))

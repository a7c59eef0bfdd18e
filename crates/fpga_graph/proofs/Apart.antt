-- Lists in which each element stands once.
use Rattle.std.proofs.Common.{◌≡◌, ◌≢◌, ℕ, zero, suc, ◌+◌, Bool, true, false, cond, Option, Some, None, List, [], ◌∷◌, ◌++◌, refl, sym, ap, ◌∙◌, inl, inr, arith}
use Rattle.std.specs.Prelude.{AllPairs, filter, flat_map, map}
use Rattle.std.specs.List.{range_with_len}
use Rattle.std.specs.Option.{option_to_list}
use Rattle.std.proofs.lemmas.List.Kept.{AllPairs-cons}
use Rattle.list_laws.proofs.Members.{In, In-append_cases, all-from_In, from_In-filter, from_In-flat_map, from_In-map, from_In-range}

-- no element stands a second time, by recursion on the list
abbrev pub IsApart : {A : Type 0} → List A → Type 0
IsApart [] = Unit {0}
IsApart {A} (x ∷ xs) = ((y : A) → In xs y → x ≢ y) × IsApart xs

-- the same as std has it
pub all_pairs-apart : {A : Type 0} (xs : List A) → IsApart xs → AllPairs (λ a b. a ≢ b) xs
all_pairs-apart {A} [] h = λ i j d low high. absurd (omega arith)
all_pairs-apart {A} (x ∷ xs) h =
    AllPairs-cons (λ (a b : A). a ≢ b) x xs (all-from_In (λ (y : A). x ≢ y) xs h.0)
    (all_pairs-apart xs h.1)

pub apart-append : {A : Type 0} (xs ys : List A) → IsApart xs → IsApart ys →
    ((x y : A) → In xs x → In ys y → x ≢ y) → IsApart (xs ++ ys)
apart-append [] ys h g d = g
apart-append {A} (x ∷ xs) ys h g d = (
  (λ y i. elim (In-append_cases xs ys y i) [
    | inl here ↦ h.0 y here
    | inr there ↦ d x y (inl refl) there
  ]),
  apart-append xs ys h.1 g (λ u v i j. d u v (inr i) j),
)

-- rows whose elements tell of which element they are made
pub apart-rows : {A B : Type 0} (key : B → A) (f : A → List B) (xs : List A) →
    ((x : A) (y : B) → In (f x) y → key y ≡ x) → ((x : A) → IsApart (f x)) → IsApart xs →
    IsApart (flat_map f xs)
apart-rows key f [] tells rows h = tt
apart-rows {A} {B} key f (x ∷ xs) tells rows h =
    apart-append (f x) (flat_map f xs) (rows x) (apart-rows key f xs tells rows h.1)
    (λ y z i j same. let from = from_In-flat_map f xs z j in
    h.0 from.0 from.1 (sym (tells x y i) ∙ ap key same ∙ tells from.0 z from.2))

pub apart-map : {A B : Type 0} (key : B → A) (f : A → B) (xs : List A) →
    ((x : A) → key (f x) ≡ x) → IsApart xs → IsApart (map f xs)
apart-map key f [] tells h = tt
apart-map {A} {B} key f (x ∷ xs) tells h = (
  (λ y i same. let from = from_In-map f xs y i in
      h.0 from.0 from.1 (sym (tells x) ∙ ap key (same ∙ sym from.2) ∙ tells from.0)),
  apart-map key f xs tells h.1,
)

pub apart-filter : {A : Type 0} (p : A → Bool) (xs : List A) → IsApart xs → IsApart (filter p xs)
apart-filter p [] h = tt
apart-filter {A} p (x ∷ xs) h = go (p x) (apart-filter p xs h.1)
  where
    go : (b : Bool) → IsApart (filter p xs) → IsApart (cond b (x ∷ filter p xs) (filter p xs))
    go true g = ((λ y i. h.0 y (from_In-filter p xs y i).0), g)
    go false g = g

pub apart-option : {A : Type 0} (o : Option A) → IsApart (option_to_list o)
apart-option None = tt
apart-option (Some x) = ((λ y i. absurd i), tt)

pub apart-range : (a n : ℕ) → IsApart (range_with_len a n)
apart-range a zero = tt
apart-range a (suc n) = (
  (λ y i same. let low = (from_In-range (a + 1) n y i).0 in absurd (omega (arith, low, same))),
  apart-range (a + 1) n,
)

-- x is none of these, by recursion on the list
abbrev pub IsNoneOf : {A : Type 0} → A → List A → Type 0
IsNoneOf x [] = Unit {0}
IsNoneOf x (y ∷ ys) = (x ≢ y) × IsNoneOf x ys

pub none-of : {A : Type 0} (x : A) (ys : List A) → IsNoneOf x ys → (y : A) → In ys y → x ≢ y
none-of x [] h y i = absurd i
none-of {A} x (z ∷ zs) h y i = elim i [
  | inl e ↦ (λ same. h.0 (same ∙ sym e))
  | inr more ↦ none-of x zs h.1 y more
]

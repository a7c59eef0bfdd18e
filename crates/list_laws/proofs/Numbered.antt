-- The elements of a list with their numbers.
use Rattle.std.proofs.Common.{◌≡◌, ℕ, zero, suc, ◌+◌, ◌<◌, Some, List, [], ◌∷◌, ◌++◌, length, get_or, refl, ap, subst, ◌∙◌, inl, inr, arith}
use Rattle.std.specs.Prelude.{map, slice_get}
use Rattle.std.specs.List.{enumerate_from, range_with_len}
use Rattle.list_laws.proofs.Members.{In}

-- one element more has the next number
pub enumerate-push : {T : Type 0} (a : ℕ) (xs : List T) (x : T) →
    enumerate_from a (xs ++ x ∷ []) ≡ enumerate_from a xs ++ (a + length xs, x) ∷ []
enumerate-push a [] x = let e : a ≡ a + 0 = omega arith in ap (λ (m : ℕ). (m, x) ∷ []) e
enumerate-push {T} a (y ∷ ys) x =
    let e : a + 1 + length ys ≡ a + length (y ∷ ys) = omega arith in
    ap (λ zs. (a, y) ∷ zs)
    (enumerate-push (a + 1) ys x
    ∙ ap (λ (m : ℕ). enumerate_from (a + 1) ys ++ (m, x) ∷ []) e)

-- what stands at a place has that place as its number
pub numbered-here : {T : Type 0} (a : ℕ) (xs : List T) (k : ℕ) (x : T) → slice_get xs k ≡ Some x →
    slice_get (enumerate_from a xs) k ≡ Some (a + k, x)
numbered-here a [] k x h = cc
numbered-here {T} a (y ∷ ys) zero x h =
    let e : y ≡ x = cc in let f : a ≡ a + 0 = omega arith in λ i. Some (f i, e i)
numbered-here {T} a (y ∷ ys) (suc k) x h =
    numbered-here (a + 1) ys k x h
    ∙ (let f : a + 1 + k ≡ a + suc k = omega arith in λ i. Some (f i, x))

pub numbered-there : {T : Type 0} (a : ℕ) (xs : List T) (k : ℕ) (z : ℕ × T) →
    slice_get (enumerate_from a xs) k ≡ Some z → (z.0 ≡ a + k) × (slice_get xs k ≡ Some z.1)
numbered-there a [] k z h = cc
numbered-there {T} a (x ∷ xs) zero z h =
    let e : (a, x) ≡ z = first h in
    (let f : a ≡ z.0 = ap (λ (w : ℕ × T). w.0) e in omega arith, ap (λ (w : ℕ × T). Some w.1) e)
  where
    first : {u v : ℕ × T} → Some u ≡ Some v → u ≡ v
    first g = cc
numbered-there a (x ∷ xs) (suc k) z h =
    let rest = numbered-there (a + 1) xs k z h in (omega (arith, rest.0), rest.1)

-- the same of what is made of an element and its number
pub made_numbered : {A B : Type 0} (f : ℕ × A → B) (a : ℕ) (xs : List A) (k : ℕ) (x : A) →
    slice_get xs k ≡ Some x → slice_get (map f (enumerate_from a xs)) k ≡ Some (f (a + k, x))
made_numbered f a [] k x h = cc
made_numbered {A} {B} f a (y ∷ ys) zero x h =
    let e : y ≡ x = cc in let g : a ≡ a + 0 = omega arith in λ i. Some (f (g i, e i))
made_numbered {A} {B} f a (y ∷ ys) (suc k) x h =
    made_numbered f (a + 1) ys k x h
    ∙ (let g : a + 1 + k ≡ a + suc k = omega arith in λ i. Some (f (g i, x)))

-- an element with its number is one of the numbered ones
pub In-enumerate : {A : Type 0} (a : ℕ) (xs : List A) (k : ℕ) (d : A) → k < length xs →
    In (enumerate_from a xs) (a + k, get_or xs k d)
In-enumerate a [] k d h = absurd (omega arith)
In-enumerate {A} a (x ∷ xs) zero d h = let e : a ≡ a + 0 = omega arith in inl (λ i. (e i, x))
In-enumerate {A} a (x ∷ xs) (suc k) d h =
    let e : a + 1 + k ≡ a + suc k = omega arith in
    inr (subst (λ (n : ℕ). In (enumerate_from (a + 1) xs) (n, get_or xs k d)) e
    (In-enumerate (a + 1) xs k d (omega arith)))

-- a numbered element stands at the place of its number
pub from_In-enumerate : {A : Type 0} (a : ℕ) (xs : List A) (z : ℕ × A) →
    In (enumerate_from a xs) z → (k : ℕ) × (z.0 ≡ a + k) × (slice_get xs k ≡ Some z.1)
from_In-enumerate a [] z i = absurd i
from_In-enumerate {A} a (x ∷ xs) z i = elim i [
  | inl e ↦ (
    0,
    (let f : a ≡ z.0 = ap (λ (w : ℕ × A). w.0) e in omega arith),
    ap (λ (w : ℕ × A). Some w.1) e,
  )
  | inr t ↦ let r = from_In-enumerate (a + 1) xs z t in (suc r.0, omega (arith, r.1), r.2)
]

-- where each element is the value at its number, the numbered ones are those of a range
pub enumerate-map : {T : Type 0} (f : ℕ → T) (d : T) (a : ℕ) (xs : List T) →
    ((k : ℕ) → k < length xs → get_or xs k d ≡ f (a + k)) →
    enumerate_from a xs ≡ map (λ i. (i, f i)) (range_with_len a (length xs))
enumerate-map f d a [] h = refl
enumerate-map {T} f d a (x ∷ xs) h =
    let here : x ≡ f a = h 0 (omega arith) ∙ ap f (let e : a + 0 ≡ a = omega arith in e) in
    let rest = enumerate-map f d (a + 1) xs (λ k below. h (suc k) (omega arith)
    ∙ ap f (let e : a + suc k ≡ a + 1 + k = omega arith in e)) in
    λ i. (a, here i) ∷ rest i

-- What are the elements of lists that are made of other lists, and what holds of each or of some
-- element.
use Rattle.std.proofs.Common.{◌≡◌, ℕ, zero, suc, ◌+◌, ◌<◌, ◌≤◌, ◌⊎◌, Bool, true, false, cond, Option, Some, None, List, [], ◌∷◌, ◌++◌, length, get_or, refl, sym, ap, ◌∙◌, subst, inl, inr, arith}
use Rattle.std.specs.Prelude.{◌||◌, All, Any, Contains, filter, filter_map, find, flat_map, map}
use Rattle.std.specs.List.{cons_option, list_any, range_with_len}
use Rattle.std.proofs.lemmas.Bool.{cases_lt, false≢true}
use Rattle.std.proofs.lemmas.List.Elements.{All-cons}

-- x is one of the elements; the same as std's Contains, but by recursion on the list
abbrev pub In : {T : Type 0} → List T → T → Type 0
In [] x = ⊥
In (y ∷ ys) x = (y ≡ x) ⊎ In ys x

-- what stands at a place is an element
pub In-get : {A : Type 0} (xs : List A) (k : ℕ) (d : A) → k < length xs → In xs (get_or xs k d)
In-get [] k d h = absurd (omega arith)
In-get (x ∷ xs) zero d h = inl refl
In-get (x ∷ xs) (suc k) d h = inr (In-get xs k d (omega arith))

pub contains-In : {A : Type 0} (xs : List A) (x : A) → In xs x → Contains xs x
contains-In [] x i = absurd i
contains-In (y ∷ ys) x i = elim i [
  | inl e ↦ (0, omega arith, e)
  | inr t ↦ let r = contains-In ys x t in (suc r.0, omega (arith, r.1), r.2)
]

pub In-contains : {A : Type 0} (xs : List A) (x : A) → Contains xs x → In xs x
In-contains {A} xs x h = subst (λ (y : A). In xs y) h.2 (In-get xs h.0 x h.1)

pub In-map : {A B : Type 0} (f : A → B) (xs : List A) (x : A) → In xs x → In (map f xs) (f x)
In-map f [] x h = absurd h
In-map f (y ∷ ys) x h = elim h [ inl e ↦ inl (ap f e) | inr t ↦ inr (In-map f ys x t) ]

pub from_In-map : {A B : Type 0} (f : A → B) (xs : List A) (y : B) → In (map f xs) y →
    (x : A) × In xs x × (f x ≡ y)
from_In-map f [] y h = absurd h
from_In-map f (x ∷ xs) y h = elim h [
  | inl e ↦ (x, inl refl, e)
  | inr t ↦ let r = from_In-map f xs y t in (r.0, inr r.1, r.2)
]

pub In-append_left : {A : Type 0} (xs ys : List A) (x : A) → In xs x → In (xs ++ ys) x
In-append_left [] ys x h = absurd h
In-append_left (y ∷ xs) ys x h =
    elim h [ inl e ↦ inl e | inr t ↦ inr (In-append_left xs ys x t) ]

pub In-append_right : {A : Type 0} (xs ys : List A) (x : A) → In ys x → In (xs ++ ys) x
In-append_right [] ys x h = h
In-append_right (y ∷ xs) ys x h = inr (In-append_right xs ys x h)

pub In-append_cases : {A : Type 0} (xs ys : List A) (x : A) → In (xs ++ ys) x → In xs x ⊎ In ys x
In-append_cases [] ys x h = inr h
In-append_cases (y ∷ xs) ys x h = elim h [
  | inl e ↦ inl (inl e)
  | inr t ↦ elim (In-append_cases xs ys x t) [ inl u ↦ inl (inr u) | inr v ↦ inr v ]
]

pub In-flat_map : {A B : Type 0} (f : A → List B) (xs : List A) (x : A) (y : B) → In xs x →
    In (f x) y → In (flat_map f xs) y
In-flat_map f [] x y h g = absurd h
In-flat_map {A} f (z ∷ zs) x y h g = elim h [
  | inl e ↦ In-append_left (f z) (flat_map f zs) y (subst (λ (w : A). In (f w) y) (sym e) g)
  | inr t ↦ In-append_right (f z) (flat_map f zs) y (In-flat_map f zs x y t g)
]

pub from_In-flat_map : {A B : Type 0} (f : A → List B) (xs : List A) (y : B) →
    In (flat_map f xs) y → (x : A) × In xs x × In (f x) y
from_In-flat_map f [] y h = absurd h
from_In-flat_map f (x ∷ xs) y h = elim (In-append_cases (f x) (flat_map f xs) y h) [
  | inl u ↦ (x, inl refl, u)
  | inr v ↦ let r = from_In-flat_map f xs y v in (r.0, inr r.1, r.2)
]

pub In-filter : {A : Type 0} (p : A → Bool) (xs : List A) (x : A) → In xs x → p x ≡ true →
    In (filter p xs) x
In-filter p [] x i h = absurd i
In-filter {A} p (y ∷ ys) x i h = go (p y) refl (λ t. In-filter p ys x t h)
  where
    go : (b : Bool) → p y ≡ b → (In ys x → In (filter p ys) x) →
        In (cond b (y ∷ filter p ys) (filter p ys)) x
    go true e more = elim i [ inl same ↦ inl same | inr t ↦ inr (more t) ]
    go false e more = elim i [
      | inl same ↦ absurd (false≢true (sym e ∙ ap p same ∙ h))
      | inr t ↦ more t
    ]

pub from_In-filter : {A : Type 0} (p : A → Bool) (xs : List A) (x : A) → In (filter p xs) x →
    In xs x × (p x ≡ true)
from_In-filter p [] x i = absurd i
from_In-filter {A} p (y ∷ ys) x i = go (p y) refl i (from_In-filter p ys x)
  where
    go : (b : Bool) → p y ≡ b → In (cond b (y ∷ filter p ys) (filter p ys)) x →
        (In (filter p ys) x → In ys x × (p x ≡ true)) → In (y ∷ ys) x × (p x ≡ true)
    go true e j more = elim j [
      | inl same ↦ (inl same, sym (ap p same) ∙ e)
      | inr t ↦ let r = more t in (inr r.0, r.1)
    ]
    go false e j more = let r = more j in (inr r.0, r.1)

pub In-filter_map : {A B : Type 0} (h : A → Option B) (xs : List A) (x : A) (y : B) → In xs x →
    h x ≡ Some y → In (filter_map h xs) y
In-filter_map h [] x y i e = absurd i
In-filter_map {A} {B} h (z ∷ zs) x y i e = elim i [
  | inl same ↦ rw (same, e) (inl refl)
  | inr t ↦ later (h z) (In-filter_map h zs x y t e)
]
  where
    later : (o : Option B) → In (filter_map h zs) y → In (cons_option o (filter_map h zs)) y
    later None j = j
    later (Some b) j = inr j

pub from_In-filter_map : {A B : Type 0} (h : A → Option B) (xs : List A) (y : B) →
    In (filter_map h xs) y → (x : A) × In xs x × (h x ≡ Some y)
from_In-filter_map h [] y i = absurd i
from_In-filter_map {A} {B} h (z ∷ zs) y i = go (h z) refl i (from_In-filter_map h zs y)
  where
    go : (o : Option B) → h z ≡ o → In (cons_option o (filter_map h zs)) y →
        (In (filter_map h zs) y → (x : A) × In zs x × (h x ≡ Some y)) →
        (x : A) × In (z ∷ zs) x × (h x ≡ Some y)
    go None e j more = let r = more j in (r.0, inr r.1, r.2)
    go (Some b) e j more = elim j [
      | inl same ↦ (z, inl refl, e ∙ ap (λ (c : B). Some c) same)
      | inr t ↦ let r = more t in (r.0, inr r.1, r.2)
    ]

-- the numbers of a range are those between its ends
pub In-range : (a n k : ℕ) → a ≤ k → k < a + n → In (range_with_len a n) k
In-range a zero k low high = absurd (omega arith)
In-range a (suc n) k low high = elim (cases_lt a k) [
  | inl above ↦ inr (In-range (a + 1) n k (omega arith) (omega arith))
  | inr below ↦ inl (omega arith)
]

pub from_In-range : (a n k : ℕ) → In (range_with_len a n) k → (a ≤ k) × (k < a + n)
from_In-range a zero k h = absurd h
from_In-range a (suc n) k h = elim h [
  | inl e ↦ (omega arith, omega arith)
  | inr t ↦ let r = from_In-range (a + 1) n k t in (omega arith, omega arith)
]

-- what holds of each element
pub In-all : {A : Type 0} (P : A → Type 0) (xs : List A) (x : A) → All P xs → In xs x → P x
In-all P [] x h i = absurd i
In-all P (y ∷ ys) x h i = elim i [
  | inl e ↦ subst P e (h 0 y (omega arith))
  | inr t ↦ In-all P ys x (λ k d below. h (suc k) d (omega arith)) t
]

pub all-from_In : {A : Type 0} (P : A → Type 0) (xs : List A) → ((x : A) → In xs x → P x) → All P xs
all-from_In P [] h = λ k d below. absurd (omega arith)
all-from_In P (x ∷ xs) h =
    All-cons P x xs (h x (inl refl)) (all-from_In P xs (λ y i. h y (inr i)))

-- what holds of some element
pub In-any : {A : Type 0} (P : A → Type 0) (xs : List A) → Any P xs → (x : A) × In xs x × P x
In-any {A} P xs h = (h.1, subst (λ (y : A). In xs y) h.3 (In-get xs h.0 h.1 h.2), h.4)

pub any-from_In : {A : Type 0} (P : A → Type 0) (xs : List A) (x : A) → In xs x → P x → Any P xs
any-from_In P [] x i h = absurd i
any-from_In {A} P (y ∷ ys) x i h = elim i [
  | inl e ↦ (0, x, omega arith, e, h)
  | inr t ↦ let r = any-from_In P ys x t h in (suc r.0, r.1, omega (arith, r.2), r.3, r.4)
]

-- a test passes somewhere exactly where it passes at an element
pub list_any-from_In : {A : Type 0} (p : A → Bool) (xs : List A) (x : A) → In xs x → p x ≡ true →
    list_any p xs ≡ true
list_any-from_In p [] x h t = absurd h
list_any-from_In p (y ∷ ys) x h t = elim h [
  | inl e ↦ rw (ap p e ∙ t) refl
  | inr u ↦ rw (list_any-from_In p ys x u t) (or_true (p y))
]
  where
    or_true : (b : Bool) → (b || true) ≡ true
    or_true true = refl
    or_true false = refl

pub In-list_any : {A : Type 0} (p : A → Bool) (xs : List A) → list_any p xs ≡ true →
    (x : A) × In xs x × (p x ≡ true)
In-list_any p [] h = absurd (false≢true h)
In-list_any {A} p (y ∷ ys) h = go (p y) refl (λ t. In-list_any p ys t)
  where
    go : (b : Bool) → p y ≡ b → (list_any p ys ≡ true → (x : A) × In ys x × (p x ≡ true)) →
        (x : A) × In (y ∷ ys) x × (p x ≡ true)
    go true e more = (y, inl refl, e)
    go false e more = let r = more (rw e at h) in (r.0, inr r.1, r.2)

-- what a search finds is an element that passes
pub find-In : {A : Type 0} (p : A → Bool) (xs : List A) (x : A) → find p xs ≡ Some x →
    In xs x × (p x ≡ true)
find-In p [] x h = cc
find-In {A} p (y ∷ ys) x h = go (p y) refl (λ t. find-In p ys x t)
  where
    go : (b : Bool) → p y ≡ b → (find p ys ≡ Some x → In ys x × (p x ≡ true)) →
        In (y ∷ ys) x × (p x ≡ true)
    go true e more =
        let found : Some y ≡ Some x = rw e at h in
        let same : y ≡ x = cc in
        (inl same, sym (ap p same) ∙ e)
    go false e more = let r = more (rw e at h) in (inr r.0, r.1)

-- where an element passes, a search finds one
pub find-some : {A : Type 0} (p : A → Bool) (xs : List A) (x : A) → In xs x → p x ≡ true →
    (y : A) × (find p xs ≡ Some y)
find-some p [] x h t = absurd h
find-some {A} p (y ∷ ys) x h t = go (p y) refl (λ u. find-some p ys x u t)
  where
    go : (b : Bool) → p y ≡ b → (In ys x → (z : A) × (find p ys ≡ Some z)) →
        (z : A) × (find p (y ∷ ys) ≡ Some z)
    go true e more = (y, rw e refl)
    go false e more = elim h [
      | inl same ↦ absurd (false≢true (sym e ∙ ap p same ∙ t))
      | inr u ↦ let r = more u in (r.0, rw e r.1)
    ]

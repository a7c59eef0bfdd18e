-- What stands at a place of a list, of its front parts, and of a list that is made of it.
use Rattle.std.proofs.Common.{◌≡◌, ◌≢◌, ℕ, zero, suc, ◌<◌, ◌⊎◌, Bool, true, false, Option, Some, None, List, [], ◌∷◌, ◌++◌, length, take, drop, get_or, refl, sym, ap, inl, inr, arith}
use Rattle.std.specs.Prelude.{◌||◌, find, map, option_map, slice_get}
use Rattle.std.specs.List.{last_or, list_any}
use Rattle.std.proofs.lemmas.Bool.{false≢true}
use Rattle.list_laws.proofs.Members.{In}

-- what a loop has at hand stands at its place
pub get-there : {T : Type 0} (xs : List T) (i : ℕ) (x d : T) → i < length xs → x ≡ get_or xs i d →
    slice_get xs i ≡ Some x
get-there [] i x d inside is = absurd (omega arith)
get-there (y ∷ ys) zero x d inside is = rw is refl
get-there (y ∷ ys) (suc i) x d inside is = get-there ys i x d (omega arith) is

-- the last of a list with one more
pub get-last : {T : Type 0} (xs : List T) (x : T) (i : ℕ) → i ≡ length xs →
    slice_get (xs ++ x ∷ []) i ≡ Some x
get-last [] x zero is = refl
get-last [] x (suc i) is = absurd (omega arith)
get-last (y ∷ xs) x zero is = absurd (omega arith)
get-last (y ∷ xs) x (suc i) is = get-last xs x i (omega arith)

-- the others of a list with one more
pub get-front : {T : Type 0} (xs : List T) (x : T) (i : ℕ) → i ≢ length xs →
    slice_get (xs ++ x ∷ []) i ≡ slice_get xs i
get-front [] x zero other = absurd (other refl)
get-front [] x (suc i) other = refl
get-front (y ∷ xs) x zero other = refl
get-front (y ∷ xs) x (suc i) other = get-front xs x i (λ same. other (ap suc same))

-- a place of a list with one more is the last, or a place of the list
pub get-cases : {T : Type 0} (xs : List T) (x y : T) (i : ℕ) →
    slice_get (xs ++ x ∷ []) i ≡ Some y → ((i ≡ length xs) × (x ≡ y)) ⊎ (slice_get xs i ≡ Some y)
get-cases [] x y zero is = inl (refl, cc)
get-cases [] x y (suc i) is = cc
get-cases (z ∷ xs) x y zero is = inr is
get-cases (z ∷ xs) x y (suc i) is = elim (get-cases xs x y i is) [
  | inl last ↦ inl (ap suc last.0, last.1)
  | inr earlier ↦ inr earlier
]

-- what stands at a place of a list whose elements were changed
pub get-map : {A B : Type 0} (f : A → B) (xs : List A) (k : ℕ) (y : B) →
    slice_get (map f xs) k ≡ Some y → (x : A) × (slice_get xs k ≡ Some x) × (f x ≡ y)
get-map f [] k y h = cc
get-map f (x ∷ xs) zero y h = (x, refl, cc)
get-map f (x ∷ xs) (suc k) y h = get-map f xs k y h

-- the front part up to a place, with what stands there
pub take-get : {T : Type 0} (xs : List T) (i : ℕ) (x : T) → slice_get xs i ≡ Some x →
    take (suc i) xs ≡ take i xs ++ x ∷ []
take-get [] i x e = cc
take-get (y ∷ ys) zero x e = let same : y ≡ x = cc in rw same refl
take-get {T} (y ∷ ys) (suc i) x e = ap (λ (zs : List T). y ∷ zs) (take-get ys i x e)

-- what stands before a place, at it and behind it
pub split-at : {T : Type 0} (xs : List T) (k : ℕ) (d : T) → k < length xs →
    xs ≡ take k xs ++ get_or xs k d ∷ drop (suc k) xs
split-at [] k d h = absurd (omega arith)
split-at (x ∷ xs) zero d h = refl
split-at {T} (x ∷ xs) (suc k) d h = ap (λ (zs : List T). x ∷ zs) (split-at xs k d (omega arith))

-- the last of a list with one more is that one
pub last-push : {T : Type 0} (o : Option T) (xs : List T) (x : T) →
    last_or o (xs ++ x ∷ []) ≡ Some x
last-push o [] x = refl
last-push o (y ∷ ys) x = last-push (Some y) ys x

-- a value that is there is not missing
pub some_is : {T : Type 0} {x y : T} → Some x ≡ Some y → x ≡ y
some_is e = cc

pub none_is_not_some : {T : Type 0} {x : T} → None ≡ Some x → ⊥
none_is_not_some e = cc

-- a search among changed elements
pub any-changed : {A B : Type 0} (p : B → Bool) (f : A → B) (xs : List A)
    → list_any p (map f xs) ≡ list_any (λ x. p (f x)) xs
any-changed p f [] = refl
any-changed p f (x ∷ xs) = ap (λ (b : Bool). p (f x) || b) (any-changed p f xs)

-- the last of changed elements
pub last-changed : {A B : Type 0} (f : A → B) (o : Option A) (xs : List A)
    → last_or (option_map f o) (map f xs) ≡ option_map f (last_or o xs)
last-changed f o [] = refl
last-changed f o (x ∷ xs) = last-changed f (Some x) xs

-- what stands at a place is an element, and an element stands at a place
pub get-In : {T : Type 0} (xs : List T) (k : ℕ) (x : T) → slice_get xs k ≡ Some x → In xs x
get-In [] k x is = cc
get-In (y ∷ ys) zero x is = inl cc
get-In (y ∷ ys) (suc k) x is = inr (get-In ys k x is)

pub In-place : {T : Type 0} (xs : List T) (x : T) → In xs x → (k : ℕ) × (slice_get xs k ≡ Some x)
In-place [] x i = absurd i
In-place {T} (y ∷ ys) x i = elim i [
  | inl e ↦ (0, ap (λ (z : T). Some z) e)
  | inr later ↦ let r = In-place ys x later in (suc r.0, r.1)
]

-- what stands at a place of a front part stands there in the list
pub get-take : {T : Type 0} (xs : List T) (n k : ℕ) (x : T) → slice_get (take n xs) k ≡ Some x
    → (k < n) × (slice_get xs k ≡ Some x)
get-take [] zero k x is = cc
get-take [] (suc n) k x is = cc
get-take (y ∷ ys) zero k x is = cc
get-take (y ∷ ys) (suc n) zero x is = (omega arith, is)
get-take (y ∷ ys) (suc n) (suc k) x is =
    let r = get-take ys n k x is in (omega (arith, r.0), r.1)

-- what stands at a place before a number is in the front part of so many
pub get-taken : {T : Type 0} (xs : List T) (n k : ℕ) (x : T) → k < n → slice_get xs k ≡ Some x
    → slice_get (take n xs) k ≡ Some x
get-taken [] n k x low is = cc
get-taken (y ∷ ys) zero k x low is = absurd (omega (arith, low))
get-taken (y ∷ ys) (suc n) zero x low is = is
get-taken (y ∷ ys) (suc n) (suc k) x low is = get-taken ys n k x (omega (arith, low)) is

-- an element before another
pub get-before : {T : Type 0} (xs : List T) (k : ℕ) (x : T) → slice_get xs (suc k) ≡ Some x
    → (y : T) × (slice_get xs k ≡ Some y)
get-before [] k x is = cc
get-before (y ∷ ys) zero x is = (y, refl)
get-before (y ∷ ys) (suc k) x is = get-before ys k x is

-- the first that passes a test
pub find-first : {T : Type 0} (q : T → Bool) (xs : List T) (n : ℕ) (x : T) → slice_get xs n ≡ Some x
    → list_any q (take n xs) ≡ false → q x ≡ true → find q xs ≡ Some x
find-first q [] n x here none passes = cc
find-first q (y ∷ ys) zero x here none passes =
    let same : y ≡ x = cc in rw (same, passes) refl
find-first {T} q (y ∷ ys) (suc n) x here none passes =
    go (q y) refl none (find-first q ys n x here)
  where
    go : (b : Bool) → q y ≡ b → (b || list_any q (take n ys)) ≡ false
        → (list_any q (take n ys) ≡ false → q x ≡ true → find q ys ≡ Some x)
        → find q (y ∷ ys) ≡ Some x
    go true is h others = absurd (false≢true (sym h))
    go false is h others = rw is (others h passes)

-- What holds of the front part of a list that a loop has gone through.
use Rattle.std.proofs.Common.{◌≡◌, ℕ, zero, suc, ◌+◌, List, [], ◌∷◌, ◌++◌, length, take, drop, ap, ◌∙◌, subst, refl, add-one, append_assoc}
use Rattle.std.specs.Prelude.{All, Some, flat_map, slice_get}
use Rattle.std.proofs.Math.Seq.{take-length}
use Rattle.std.proofs.lemmas.Grind.{flat_map-append}
use Rattle.std.proofs.lemmas.List.{append-nil}
use Rattle.std.proofs.lemmas.List.Elements.{All-nil, All-push}
use Rattle.list_laws.proofs.Places.{take-get}

-- of each of no elements
pub all-front : {T : Type 0} (P : T → Type 0) (xs : List T) → All P (take 0 xs)
all-front P [] = All-nil P
all-front P (x ∷ xs) = All-nil P

-- of each of the front ones and of the next
pub all-next : {T : Type 0} (P : T → Type 0) (xs : List T) (i : ℕ) (x : T) →
    slice_get xs i ≡ Some x → All P (take i xs) → P x → All P (take (i + 1) xs)
all-next P xs i x at front here =
    rw (add-one, take-get xs i x at) (All-push P (take i xs) x front here)

-- of each of all
pub all-whole : {T : Type 0} (P : T → Type 0) (xs : List T) (i : ℕ) → i ≡ length xs →
    All P (take i xs) → All P xs
all-whole {T} P xs i e all =
    subst (All P) (ap (λ (n : ℕ). take n xs) e ∙ take-length xs) all

-- what the front elements make, and what the next one makes
pub made-next : {A B : Type 0} (f : A → List B) (xs : List A) (i : ℕ) (x : A) →
    slice_get xs i ≡ Some x → flat_map f (take (suc i) xs) ≡ flat_map f (take i xs) ++ f x
made-next {A} {B} f xs i x at =
    ap (flat_map f) (take-get xs i x at) ∙ flat_map-append f (take i xs) (x ∷ [])
    ∙ ap (λ (t : List B). flat_map f (take i xs) ++ t) (append-nil (f x))

-- what the front elements make, and then what the others make
pub made-parts : {A B : Type 0} (f : A → List B) (xs : List A) (i : ℕ) →
    flat_map f (take i xs) ++ flat_map f (drop i xs) ≡ flat_map f xs
made-parts f [] zero = refl
made-parts f [] (suc i) = refl
made-parts f (x ∷ xs) zero = refl
made-parts {A} {B} f (x ∷ xs) (suc i) =
    append_assoc (f x) (flat_map f (take i xs)) (flat_map f (drop i xs))
    ∙ ap (λ (t : List B). f x ++ t) (made-parts f xs i)

-- what all elements make
pub made-whole : {A B : Type 0} (f : A → List B) (xs : List A) (i : ℕ) → i ≡ length xs →
    flat_map f (take i xs) ≡ flat_map f xs
made-whole f xs i e = ap (λ (n : ℕ). flat_map f (take n xs)) e ∙ ap (flat_map f) (take-length xs)

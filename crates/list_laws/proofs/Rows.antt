-- Lists that are made of rows: of what each element of a list makes.
use Rattle.std.proofs.Common.{◌≡◌, ℕ, ◌*◌, Option, List, [], ◌∷◌, ◌++◌, length, refl, ap, ◌∙◌, inl, inr, arith, length-append}
use Rattle.std.specs.Prelude.{filter_map, flat_map, map}
use Rattle.std.specs.List.{cons_option}
use Rattle.std.proofs.lemmas.Grind.{flat_map-append}
use Rattle.list_laws.proofs.Members.{In}

-- rows of one length
pub length-rows : {A B : Type 0} (f : A → List B) (m : ℕ) (xs : List A) →
    ((x : A) → length (f x) ≡ m) → length (flat_map f xs) ≡ length xs * m
length-rows f m [] h = omega arith
length-rows f m (x ∷ xs) h =
    rw (length-append (f x) (flat_map f xs), h x, length-rows f m xs h) (omega arith)

-- rows that are alike at each element
pub rows-alike : {A B : Type 0} (f g : A → List B) (xs : List A) → ((x : A) → In xs x → f x ≡ g x) →
    flat_map f xs ≡ flat_map g xs
rows-alike f g [] h = refl
rows-alike {A} {B} f g (x ∷ xs) h =
    let here = h x (inl refl) in
    let rest = rows-alike f g xs (λ y i. h y (inr i)) in
    λ i. here i ++ rest i

-- elements that are changed alike
pub map-alike : {A B : Type 0} (f g : A → B) (xs : List A) → ((x : A) → f x ≡ g x) →
    map f xs ≡ map g xs
map-alike f g [] h = refl
map-alike {A} {B} f g (x ∷ xs) h =
    let here = h x in let rest = map-alike f g xs h in λ i. here i ∷ rest i

-- the rows of elements that were changed
pub rows-map : {A B C : Type 0} (g : B → List C) (f : A → B) (xs : List A) →
    flat_map g (map f xs) ≡ flat_map (λ x. g (f x)) xs
rows-map g f [] = refl
rows-map {A} {B} {C} g f (x ∷ xs) = ap (λ (t : List C). g (f x) ++ t) (rows-map g f xs)

-- the rows of the elements of rows
pub rows-rows : {A B C : Type 0} (g : B → List C) (f : A → List B) (xs : List A) →
    flat_map g (flat_map f xs) ≡ flat_map (λ x. flat_map g (f x)) xs
rows-rows g f [] = refl
rows-rows {A} {B} {C} g f (x ∷ xs) =
    flat_map-append g (f x) (flat_map f xs)
    ∙ ap (λ (t : List C). flat_map g (f x) ++ t) (rows-rows g f xs)

-- what is kept of elements that were changed
pub filter_map-map : {A B C : Type 0} (h : B → Option C) (f : A → B) (xs : List A) →
    filter_map h (map f xs) ≡ filter_map (λ x. h (f x)) xs
filter_map-map h f [] = refl
filter_map-map {A} {B} {C} h f (x ∷ xs) = ap (cons_option (h (f x))) (filter_map-map h f xs)

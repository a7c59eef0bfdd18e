-- Names, and numbers by name.
use Rattle.std.proofs.Common.{◌≡◌, ℕ, ◌+◌, ◌<◌, Bool, true, false, cond, Option, Some, None, List, [], ◌∷◌, ◌++◌, length, take, refl, sym, ◌∙◌, arith, add-one, length-take-le}
use Rattle.std.specs.Prelude.{bytes_eq, is_some, slice_get, if◌then◌else◌}
use Rattle.std.specs.BTreeMap.{BTreeMap}
use Rattle.std.specs.Borrow.{Bor}
use Rattle.std.specs.List.{position_from}
use Rattle.std.specs.Option.{option_or}
use Rattle.std.proofs.lemmas.Option.{slice_get_within}
use Rattle.std.proofs.lemmas.Slice.Eq.{bytes_eq-Decides}
use Rattle.list_laws.proofs.Places.{take-get}
use Rattle.list_laws.proofs.Searches.{position-push}
use Rattle.fpga_text.specs.Bytes.{Bytes}
use Rattle.fpga_types.specs.Names.{GainsName, number_in}

-- two names that pass as one are one
pub same_name : (a b : Bytes) → bytes_eq a b ≡ true → a ≡ b
same_name a b is = (bytes_eq-Decides a b).0 is

pub name_itself : (a : Bytes) → bytes_eq a a ≡ true
name_itself a = (bytes_eq-Decides a a).1 refl

-- a name that has no number yet is given one
pub gains-name : (number_in : Bytes → Option ℕ) (name other : Bytes) (number : ℕ)
    → is_some (number_in name) ≡ false
    → cond (bytes_eq name other) (Some number) (number_in other)
    ≡ option_or (number_in other) (if bytes_eq name other then Some number else None)
gains-name number_in name other number absent = go (bytes_eq name other) refl
  where
    none : (o : Option ℕ) → is_some o ≡ false → o ≡ None
    none None e = refl
    none (Some n) e = absurd (let clash : true ≡ false = e in cc)

    last : (o : Option ℕ) → o ≡ option_or o None
    last None = refl
    last (Some n) = refl

    go : (b : Bool) → bytes_eq name other ≡ b → cond b (Some number) (number_in other)
        ≡ option_or (number_in other) (if b then Some number else None)
    go true is = rw (← same_name name other is, none (number_in name) absent) refl
    go false is = last (number_in other)

-- one more is numbered, where things have names
pub numbers-more : {T : Type 0} (name_of : T → Bytes) (xs : List T) (i : ℕ) (x : T) (name : Bytes)
    (old new : BTreeMap (Bor Bytes) ℕ) → slice_get xs i ≡ Some x → name ≡ name_of x
    → GainsName old name i new
    → ((other : Bytes) → number_in old other
    ≡ position_from (λ x. bytes_eq (name_of x) other) 0 (take i xs))
    → (other : Bytes) → number_in new other
    ≡ position_from (λ x. bytes_eq (name_of x) other) 0 (take (i + 1) xs)
numbers-more name_of xs i x name old new here is gains numbered other =
    gains other
    ∙ (λ k. option_or (numbered other k)
    (if bytes_eq (is k) other then Some (sym count k) else None))
    ∙ sym (position-push (λ x. bytes_eq (name_of x) other) 0 (take i xs) x)
    ∙ (λ k. position_from (λ x. bytes_eq (name_of x) other) 0 (sym more k))
  where
    within : i < length xs
    within = slice_get_within xs i x here

    count : 0 + length (take i xs) ≡ i
    count = let l : length (take i xs) ≡ i = length-take-le i xs
        (let w = within in omega (arith, w)) in omega (arith, l)

    more : take (i + 1) xs ≡ take i xs ++ x ∷ []
    more = rw add-one (take-get xs i x here)

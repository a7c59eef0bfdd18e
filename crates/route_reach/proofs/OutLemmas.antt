-- The OPIN lines of a net and their pins.
use Rattle.std.proofs.Common.{◌≡◌, Bool, false, Option, Some, None, List, [], ◌∷◌, refl, ap}
use Rattle.std.specs.Prelude.{All, IfNone, IfSome, filter_map, ◌||◌}
use Rattle.std.specs.List.{list_any}
use Rattle.std.specs.Option.{option_map_or}
use Rattle.list_laws.proofs.Members.{In, In-all, In-filter_map}
use Rattle.fpga_types.specs.Pins.{HasPin}
use Rattle.fpga_types.specs.declared.arch.Arch.{Arch}
use Rattle.fpga_types.specs.declared.grid.PinAt.{PinAt}
use Rattle.fpga_types.specs.declared.route.Elem.{Elem}
use Rattle.route_reach.specs.Ends.{opin_of}

-- the pin of a line among these is one of the architecture
pub known-out : (arch : Arch) (elems : List Elem) (e : Elem) → In elems e
    → All (HasPin arch) (filter_map opin_of elems) → IfSome (opin_of e) (HasPin arch)
known-out arch elems e i h = go (opin_of e) refl
  where
    go : (o : Option PinAt) → opin_of e ≡ o → IfSome o (HasPin arch)
    go None is = tt
    go (Some out) is = In-all (HasPin arch) (filter_map opin_of elems) out h
        (In-filter_map opin_of elems e out i is)

-- a test of what is made passes where it passes of what it is made of
pub any-made : {A B : Type 0} (q : B → Bool) (f : A → Option B) (xs : List A)
    → list_any q (filter_map f xs) ≡ list_any (λ x. option_map_or q (f x) false) xs
any-made q f [] = refl
any-made {A} {B} q f (x ∷ xs) = go (f x) refl (any-made q f xs)
  where
    go : (o : Option B) → f x ≡ o
        → list_any q (filter_map f xs) ≡ list_any (λ x. option_map_or q (f x) false) xs
        → list_any q (filter_map f (x ∷ xs)) ≡ list_any (λ x. option_map_or q (f x) false) (x ∷ xs)
    go None is rest = rw is rest
    go (Some y) is rest = rw is (ap (λ (b : Bool). q y || b) rest)

-- what holds of the value holds by another name
pub some-so : {A : Type 0} (P Q : A → Type 0) (o : Option A) → ((x : A) → P x → Q x) → IfSome o P
    → IfSome o Q
some-so P Q None f h = tt
some-so P Q (Some x) f h = f x h

pub none-so : {A : Type 0} (P Q : Type 0) (o : Option A) → (P → Q) → IfNone o P → IfNone o Q
none-so P Q None f h = f h
none-so P Q (Some x) f h = tt

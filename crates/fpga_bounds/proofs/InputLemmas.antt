-- A pin line is at an input where the spot that it says is one at which nets end.
use Rattle.std.proofs.Common.{◌≡◌, ℕ, zero, suc, ◌+◌, Bool, true, false, Some, None, List, [], ◌∷◌, take, refl, sym, ap, ◌∙◌, add-one}
use Rattle.std.specs.Prelude.{◌==◌, ◌&&◌, ◌||◌, slice_get, zip, if◌then◌else◌}
use Rattle.std.specs.BTreeSet.{BTreeSet, contains}
use Rattle.std.specs.List.{list_any}
use Rattle.std.specs.Option.{option_map_or}
use Rattle.std.proofs.Math.Bool.{or-false}
use Rattle.std.proofs.lemmas.List.Folds.{list_any-append}
use Rattle.list_laws.proofs.Places.{take-get}
use Rattle.fpga_types.specs.Places.{same_spot, spot_of}
use Rattle.fpga_types.specs.SpotOrder.{spot_cmp}
use Rattle.fpga_types.specs.Terminals.{is_input_of, is_ordinary_input, takes_in}
use Rattle.fpga_types.specs.declared.arch.Arch.{Arch}
use Rattle.fpga_types.specs.declared.netlist.Block.{Block}
use Rattle.fpga_types.specs.declared.netlist.BlockKind.{BlockKind}
use Rattle.fpga_types.specs.declared.netlist.BlockKind.TheVariants.{Input, Output, Logic}
use Rattle.fpga_types.specs.declared.placement.Place.{Place}
use Rattle.fpga_types.specs.declared.placement.Spot.{Spot}
use Rattle.fpga_types.specs.declared.placement.Spot.TheVariants.{Block as BlockAt, Pad as PadAt}
use Rattle.fpga_types.specs.declared.route.Elem.{Elem}
use Rattle.fpga_types.specs.declared.route.Label.{Label}
use Rattle.fpga_types.specs.declared.route.Label.TheVariants.{Class, Pin, Pad, Track}
use Rattle.fpga_types.proofs.SpotLemmas.{equal-swap}
use Rattle.fpga_bounds.specs.Inputs.{GainsInput, HasInputs, ends_nets, ends_nets_at, input_spot}

-- where a test of each element is another one of it and of the same fact, so it is of some element
any-both : {T : Type 0} (p q : T → Bool) (fact : Bool) (xs : List T)
    → ((x : T) → p x ≡ (fact && q x)) → list_any p xs ≡ (fact && list_any q xs)
any-both p q fact [] each = sym (and_false fact)
  where
    and_false : (b : Bool) → (b && false) ≡ false
    and_false true = refl
    and_false false = refl
any-both p q fact (x ∷ xs) each =
    rw (each x, any-both p q fact xs each) (go fact (q x) (list_any q xs))
  where
    go : (f a b : Bool) → (f && a || f && b) ≡ (f && (a || b))
    go true a b = refl
    go false a b = refl

none : {T : Type 0} (p : T → Bool) (xs : List T) → ((x : T) → p x ≡ false) → list_any p xs ≡ false
none p [] each = refl
none p (x ∷ xs) each = rw (each x) (none p xs each)

module _ (arch : Arch) (x y number : ℕ) where
  abbrev tested : Label → Block × Place → Bool
  tested label placed = x == placed.1.x && y == placed.1.y
      && takes_in arch placed.0.kind placed.1.sub label number

  at_block : (kind : BlockKind) (at : Place)
      → (x == at.x && y == at.y && takes_in arch kind at.sub Pin number)
      ≡ (is_ordinary_input arch number && (ends_nets kind
      && same_spot (BlockAt x y) (spot_of kind at)))
  at_block Logic at = and_swap (x == at.x && y == at.y) (is_ordinary_input arch number)
    where
      and_swap : (a b : Bool) → (a && b) ≡ (b && a)
      and_swap true true = refl
      and_swap true false = refl
      and_swap false true = refl
      and_swap false false = refl
  at_block Input at = no (x == at.x && y == at.y) (is_ordinary_input arch number)
    where
      no : (a b : Bool) → (a && false) ≡ (b && false)
      no true true = refl
      no true false = refl
      no false true = refl
      no false false = refl
  at_block Output at = no (x == at.x && y == at.y) (is_ordinary_input arch number)
    where
      no : (a b : Bool) → (a && false) ≡ (b && false)
      no true true = refl
      no true false = refl
      no false true = refl
      no false false = refl

  false_and : (a : Bool) → (a && false) ≡ false
  false_and true = refl
  false_and false = refl

  at_pad : (kind : BlockKind) (at : Place)
      → (x == at.x && y == at.y && takes_in arch kind at.sub Pad number)
      ≡ (ends_nets kind && same_spot (PadAt x y number) (spot_of kind at))
  at_pad Logic at = false_and (x == at.x && y == at.y)
  at_pad Input at = false_and (x == at.x && y == at.y)
  at_pad Output at = ap (λ b. x == at.x && y == at.y && b) (equal-swap at.sub number)

  at_other : (kind : BlockKind) (at : Place)
      → ((x == at.x && y == at.y && takes_in arch kind at.sub Class number) ≡ false)
      × ((x == at.x && y == at.y && takes_in arch kind at.sub Track number) ≡ false)
  at_other Logic at = (false_and (x == at.x && y == at.y), false_and (x == at.x && y == at.y))
  at_other Input at = (false_and (x == at.x && y == at.y), false_and (x == at.x && y == at.y))
  at_other Output at = (false_and (x == at.x && y == at.y), false_and (x == at.x && y == at.y))

  -- the pin line is at an input of one of the blocks
  input-found : (label : Label) (placed : List (Block × Place))
      → option_map_or (λ spot. list_any (ends_nets_at spot) placed) (input_spot arch x y label
      number) false
      ≡ list_any (tested label) placed
  input-found Pin placed =
      pick (is_ordinary_input arch number)
      ∙ sym (any-both (tested Pin) (ends_nets_at (BlockAt x y)) (is_ordinary_input arch number)
      placed
      (λ b. at_block b.0.kind b.1))
    where
      pick : (b : Bool)
          → option_map_or (λ spot. list_any (ends_nets_at spot) placed) (if b then Some (BlockAt x
          y) else None) false
          ≡ (b && list_any (ends_nets_at (BlockAt x y)) placed)
      pick true = refl
      pick false = refl
  input-found Pad placed =
      sym (any-both (tested Pad) (ends_nets_at (PadAt x y number)) true placed (λ b. at_pad
      b.0.kind b.1))
  input-found Class placed = sym (none (tested Class) placed (λ b. (at_other b.0.kind b.1).0))
  input-found Track placed = sym (none (tested Track) placed (λ b. (at_other b.0.kind b.1).1))

-- a line that says no input is at none
pub no-input : (arch : Arch) (e : Elem) (placed : List (Block × Place))
    → input_spot arch e.x e.y e.label e.number ≡ None → false ≡ list_any (is_input_of arch e) placed
no-input arch e placed unsaid =
    (λ i. option_map_or (λ spot. list_any (ends_nets_at spot) placed) (sym unsaid i) false)
    ∙ input-found arch e.x e.y e.number e.label placed

-- a line that says one is at it where nets end there
pub at-input : (arch : Arch) (e : Elem) (spots : BTreeSet Spot) (placed : List (Block × Place))
    (spot : Spot)
    → HasInputs spots placed → input_spot arch e.x e.y e.label e.number ≡ Some spot
    → contains spot_cmp spots spot ≡ list_any (is_input_of arch e) placed
at-input arch e spots placed spot has said =
    has spot ∙ (λ i. option_map_or (λ at. list_any (ends_nets_at at) placed) (sym said i) false)
    ∙ input-found arch e.x e.y e.number e.label placed

-- what stands at a place of two rows
zip-there : {A B : Type 0} (xs : List A) (ys : List B) (i : ℕ) (x : A) (y : B)
    → slice_get xs i ≡ Some x → slice_get ys i ≡ Some y → slice_get (zip xs ys) i ≡ Some (x, y)
zip-there [] ys i x y h g = cc
zip-there (a ∷ xs) [] i x y h g = cc
zip-there (a ∷ xs) (b ∷ ys) zero x y h g =
    let one : a ≡ x = cc in let two : b ≡ y = cc in rw (one, two) refl
zip-there (a ∷ xs) (b ∷ ys) (suc i) x y h g = zip-there xs ys i x y h g

-- one block more
pub inputs-more : (blocks : List Block) (places : List Place) (i : ℕ) (block : Block) (place :
    Place)
    (before after : BTreeSet Spot) → slice_get blocks i ≡ Some block
    → slice_get places i ≡ Some place
    → GainsInput before (block, place) after → HasInputs before (take i (zip blocks places))
    → HasInputs after (take (i + 1) (zip blocks places))
inputs-more blocks places i block place before after here there gains has spot =
    gains spot ∙ ap (λ b. b || ends_nets_at spot (block, place)) (has spot)
    ∙ rw (
      add-one,
      take-get (zip blocks places) i (block, place) (zip-there blocks places i block place here
          there),
      list_any-append (ends_nets_at spot) (take i (zip blocks places)) ((block, place) ∷ []),
      or-false (ends_nets_at spot (block, place)),
    ) refl

-- The places of blocks by number, and one more.
use Rattle.std.proofs.Common.{◌≡◌, ◌≢◌, ℕ, zero, suc, ◌<◌, ◌⊎◌, true, false, Option, Some, None, List, [], ◌∷◌, length, get_or, replicate, refl, sym, ap, subst, ◌∙◌, inl, inr, arith, length-set}
use Rattle.std.specs.Prelude.{slice_get, slice_set}
use Rattle.std.specs.BTreeSet.{BTreeSet, IsEmpty, Updates}
use Rattle.std.proofs.lemmas.List.{length-replicate}
use Rattle.std.proofs.lemmas.Option.{get_or_from_slice_get}
use Rattle.list_laws.proofs.Places.{some_is}
use Rattle.fpga_types.specs.Places.{spot_of}
use Rattle.fpga_types.specs.Size.{Size}
use Rattle.fpga_types.specs.declared.netlist.Block.{Block}
use Rattle.fpga_types.specs.declared.placement.Place.{Place}
use Rattle.fpga_types.specs.declared.placement.Spot.{Spot}
use Rattle.fpga_place.specs.Drafts.{FitsBlock, IsInOrder, Stands}
use Rattle.fpga_types.specs.SpotOrder.{spot_cmp}
use Rattle.fpga_place.specs.Spots.{has_spot}
use Rattle.fpga_place.proofs.SpotLemmas.{has_spot-there, has_spots-none, has_spots-put}

-- something stands at each place
pub get-some : {T : Type 0} (xs : List T) (n : ℕ) → n < length xs
    → (x : T) × (slice_get xs n ≡ Some x)
get-some [] n within = absurd (omega arith)
get-some (x ∷ xs) zero within = (x, refl)
get-some (x ∷ xs) (suc n) within = get-some xs n (omega arith)

-- what stands at a place that was written
pub get-set_same : {T : Type 0} (xs : List T) (n : ℕ) (x y : T) → slice_get xs n ≡ Some x
    → slice_get (slice_set xs n y) n ≡ Some y
get-set_same [] n x y here = cc
get-set_same (z ∷ xs) zero x y here = refl
get-set_same (z ∷ xs) (suc n) x y here = get-set_same xs n x y here

-- and at another
pub get-set_other : {T : Type 0} (xs : List T) (n i : ℕ) (y : T) → i ≢ n
    → slice_get (slice_set xs n y) i ≡ slice_get xs i
get-set_other [] n i y other = refl
get-set_other (x ∷ xs) zero zero y other = absurd (other refl)
get-set_other (x ∷ xs) zero (suc i) y other = refl
get-set_other (x ∷ xs) (suc n) zero y other = refl
get-set_other (x ∷ xs) (suc n) (suc i) y other =
    get-set_other xs n i y (λ same. other (ap suc same))

-- what stands anywhere then was written, or stood there
pub get-set_cases : {T : Type 0} (xs : List T) (n i : ℕ) (y z : T)
    → slice_get (slice_set xs n y) i ≡ Some z
    → ((i ≡ n) × (y ≡ z)) ⊎ ((i ≢ n) × (slice_get xs i ≡ Some z))
get-set_cases [] n i y z is = cc
get-set_cases (x ∷ xs) zero zero y z is = inl (refl, cc)
get-set_cases (x ∷ xs) zero (suc i) y z is = inr ((λ same. omega arith), is)
get-set_cases (x ∷ xs) (suc n) zero y z is = inr ((λ same. omega arith), is)
get-set_cases (x ∷ xs) (suc n) (suc i) y z is = elim (get-set_cases xs n i y z is) [
  | inl same ↦ inl (ap suc same.0, same.1)
  | inr other ↦ inr ((λ same. other.0 (let e : i ≡ n = omega arith in e)), other.1)
]

-- where nothing has a place, nothing stands anywhere
pub none-stands : (n i : ℕ) (place : Place) → slice_get (replicate n None) i ≡ Some (Some place) → ⊥
none-stands zero i place is = cc
none-stands (suc n) zero place is = cc
none-stands (suc n) (suc i) place is = none-stands n i place is

-- before the first block line
pub in_order-none : (io_rat : ℕ) (grid : Size) (blocks : List Block) (taken : BTreeSet Spot)
    → IsEmpty taken → IsInOrder io_rat grid blocks (replicate (length blocks) None) taken
in_order-none io_rat grid blocks taken empty = record {
  count = length-replicate (length blocks) None;
  lawful = λ number block place stands.
      absurd (none-stands (length blocks) number place stands.place_is);
  apart = λ i j a b p q below first second.
      absurd (none-stands (length blocks) i p first.place_is);
  spots = has_spots-none blocks taken empty;
}

-- behind a block line
module _ (io_rat : ℕ) (grid : Size) (blocks : List Block) (places : List (Option Place))
    (number : ℕ) (place : Place)
    (fits : FitsBlock (record {
      setting = record { io_rat = io_rat; blocks = blocks };
      grid = grid;
      places = places;
    }) number place) where
  -- where a block stands then, it stood before, or it is the new one
  stands-put : (i : ℕ) (a : Block) (p : Place)
      → Stands blocks (slice_set places number (Some place)) i a p
      → ((i ≡ number) × (a ≡ fits.block) × (p ≡ place)) ⊎
      ((i ≢ number) × Stands blocks places i a p)
  stands-put i a p stands =
      elim (get-set_cases places number i (Some place) (Some p) stands.place_is) [
        | inl new ↦ inl (
          new.0,
          some_is (sym stands.block_is ∙ ap (slice_get blocks) new.0 ∙ fits.is),
          some_is (sym new.1),
        )
        | inr old ↦ inr (old.0, record { block_is = stands.block_is; place_is = old.1 })
      ]

  -- the new spot is not one of a block that stood before
  apart-new : (i : ℕ) (a : Block) (p : Place) → Stands blocks places i a p
      → spot_of a.kind p ≢ spot_of fits.block.kind place
  apart-new i a p stands same =
      let clash : true ≡ false =
      sym (has_spot-there blocks places i a p stands.block_is stands.place_is)
      ∙ ap (has_spot blocks places) same ∙ fits.free in
      cc

  pub in_order-put : (old new : BTreeSet Spot) → IsInOrder io_rat grid blocks places old
      → Updates spot_cmp old new (spot_of fits.block.kind place) true
      → IsInOrder io_rat grid blocks (slice_set places number (Some place)) new
  in_order-put old new order updates = record {
    count = length-set places number (Some place) ∙ order.count;
    lawful = λ i a p stands. elim (stands-put i a p stands) [
      | inl s ↦ rw (s.1, s.2) fits.lawful
      | inr s ↦ order.lawful i a p s.1
    ];
    apart = λ i j a b p q below first second. elim (stands-put i a p first) [
      | inl f ↦ elim (stands-put j b q second) [
        | inl s ↦ absurd (omega (arith, f.0, s.0))
        | inr s ↦ λ same. apart-new j b q s.1 (sym same ∙ (λ k. spot_of (f.1 k).kind (f.2 k)))
      ]
      | inr f ↦ elim (stands-put j b q second) [
        | inl s ↦ λ same. apart-new i a p f.1 (same ∙ (λ k. spot_of (s.1 k).kind (s.2 k)))
        | inr s ↦ order.apart i j a b p q below f.1 s.1
      ]
    ];
    spots = has_spots-put blocks places number fits.block place old new order.spots fits.is
        fits.unplaced updates;
  }

-- the same, where the spot was made by the row that has the blocks
pub put-in_order : (io_rat : ℕ) (grid : Size) (blocks : List Block) (places : List (Option Place))
    (number : ℕ) (place : Place) (row : List Block) (d : Block) (spot : Spot)
    (old new : BTreeSet Spot)
    → FitsBlock (record {
      setting = record { io_rat = io_rat; blocks = blocks };
      grid = grid;
      places = places;
    }) number place
    → row ≡ blocks → spot ≡ spot_of (get_or row number d).kind place
    → IsInOrder io_rat grid blocks places old → Updates spot_cmp old new spot true
    → IsInOrder io_rat grid blocks (slice_set places number (Some place)) new
put-in_order io_rat grid blocks places number place row d spot old new fits same is order updates =
    let here : get_or row number d ≡ fits.block =
    ap (λ r. get_or r number d) same ∙ get_or_from_slice_get blocks number fits.block d fits.is in
    in_order-put io_rat grid blocks places number place fits old new order
    (subst (λ (s : Spot). Updates spot_cmp old new s true)
    (is ∙ (λ k. spot_of (here k).kind place)) updates)

-- of copies of nothing each is nothing
pub only-none : (P : Option Place → Type 0) → ((p : Place) → P (Some p) → ⊥) → (y : Option Place)
    → P y → y ≡ None
only-none P none None h = refl
only-none P none (Some p) h = absurd (none p h)

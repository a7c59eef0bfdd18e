-- The spots of blocks, and one more.
use Rattle.std.proofs.Common.{◌≡◌, ℕ, zero, suc, Bool, true, false, cond, Option, Some, None, List, [], ◌∷◌, length, replicate, refl, sym, ap, ◌∙◌, eq-eqb}
use Rattle.std.specs.Prelude.{◌||◌, slice_get, slice_set}
use Rattle.std.specs.BTreeSet.{BTreeSet, IsEmpty, Updates, contains}
use Rattle.std.specs.Ordering.{is_eq}
use Rattle.std.proofs.Math.Bool.{or_assoc, or_comm}
use Rattle.fpga_types.specs.Places.{same_spot, spot_of}
use Rattle.fpga_types.specs.SpotOrder.{spot_cmp}
use Rattle.fpga_types.specs.declared.netlist.Block.{Block}
use Rattle.fpga_types.specs.declared.placement.Place.{Place}
use Rattle.fpga_types.specs.declared.placement.Spot.{Spot}
use Rattle.fpga_types.specs.declared.placement.Spot.TheVariants.{Block as BlockAt, Pad as PadAt}
use Rattle.fpga_types.proofs.SpotLemmas.{spot_ties}
use Rattle.fpga_place.specs.Spots.{HasSpots, has_spot, spots}

-- a spot is itself
pub same_spot-itself : (spot : Spot) → same_spot spot spot ≡ true
same_spot-itself (BlockAt x y) = rw (eq-eqb x x refl, eq-eqb y y refl) refl
same_spot-itself (PadAt x y sub) = rw (eq-eqb x x refl, eq-eqb y y refl, eq-eqb sub sub refl) refl

-- a block more that has a place
pub has_spot-put : (blocks : List Block) (places : List (Option Place)) (n : ℕ) (block : Block)
    (place : Place) (spot : Spot) → slice_get blocks n ≡ Some block
    → slice_get places n ≡ Some None
    → has_spot blocks (slice_set places n (Some place)) spot
    ≡ (has_spot blocks places spot || same_spot spot (spot_of block.kind place))
has_spot-put [] places n block place spot is free = cc
has_spot-put (b ∷ bs) [] n block place spot is free = cc
has_spot-put (b ∷ bs) (None ∷ ps) zero block place spot is free =
    let same : b ≡ block = cc in
    rw same (or_comm (same_spot spot (spot_of block.kind place)) (has_spot bs ps spot))
has_spot-put (b ∷ bs) (Some p ∷ ps) zero block place spot is free = cc
has_spot-put (b ∷ bs) (None ∷ ps) (suc n) block place spot is free =
    has_spot-put bs ps n block place spot is free
has_spot-put (b ∷ bs) (Some p ∷ ps) (suc n) block place spot is free =
    ap (λ (rest : Bool). same_spot spot (spot_of b.kind p) || rest)
    (has_spot-put bs ps n block place spot is free)
    ∙ sym (or_assoc (same_spot spot (spot_of b.kind p)) (has_spot bs ps spot)
    (same_spot spot (spot_of block.kind place)))

-- a block that has a place has its spot there
pub has_spot-there : (blocks : List Block) (places : List (Option Place)) (n : ℕ) (block : Block)
    (place : Place) → slice_get blocks n ≡ Some block → slice_get places n ≡ Some (Some place)
    → has_spot blocks places (spot_of block.kind place) ≡ true
has_spot-there [] places n block place is here = cc
has_spot-there (b ∷ bs) [] n block place is here = cc
has_spot-there (b ∷ bs) (None ∷ ps) zero block place is here = cc
has_spot-there (b ∷ bs) (Some p ∷ ps) zero block place is here =
    let same : b ≡ block = cc in
    let at : p ≡ place = cc in
    rw (same, at, same_spot-itself (spot_of block.kind place)) refl
has_spot-there (b ∷ bs) (None ∷ ps) (suc n) block place is here =
    has_spot-there bs ps n block place is here
has_spot-there (b ∷ bs) (Some p ∷ ps) (suc n) block place is here =
    rw (has_spot-there bs ps n block place is here)
    (either (same_spot (spot_of block.kind place) (spot_of b.kind p)))
  where
    either : (b : Bool) → (b || true) ≡ true
    either true = refl
    either false = refl

-- where no block has a place, there are no spots
pub spots-none : (blocks : List Block) → spots blocks (replicate (length blocks) None) ≡ []
spots-none [] = refl
spots-none (block ∷ blocks) = spots-none blocks

-- an empty set has the spots of blocks without places
pub has_spots-none : (blocks : List Block) (taken : BTreeSet Spot) → IsEmpty taken
    → HasSpots blocks (replicate (length blocks) None) taken
has_spots-none blocks taken empty spot = rw (empty, spots-none blocks) refl

-- the set with the spot of one block more
pub has_spots-put : (blocks : List Block) (places : List (Option Place)) (n : ℕ) (block : Block)
    (place : Place) (old new : BTreeSet Spot) → HasSpots blocks places old
    → slice_get blocks n ≡ Some block → slice_get places n ≡ Some None
    → Updates spot_cmp old new (spot_of block.kind place) true
    → HasSpots blocks (slice_set places n (Some place)) new
has_spots-put blocks places n block place old new has is free updates spot =
    let more : cond (is_eq (spot_cmp (spot_of block.kind place) spot)) true
    (contains spot_cmp old spot)
    ≡ (has_spot blocks places spot || same_spot spot (spot_of block.kind place)) =
    rw (spot_ties (spot_of block.kind place) spot, has spot)
    (go (same_spot spot (spot_of block.kind place)) (has_spot blocks places spot)) in
    updates.0 spot ∙ more ∙ sym (has_spot-put blocks places n block place spot is free)
  where
    go : (b o : Bool) → cond b true o ≡ (o || b)
    go true true = refl
    go true false = refl
    go false true = refl
    go false false = refl

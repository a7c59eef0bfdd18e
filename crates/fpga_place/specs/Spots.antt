-- The spots that blocks have, and a set of spots.
use Rattle.std.specs.Prelude.{◌≡◌, Bool, List, [], ◌∷◌, Option, Some, None}
use Rattle.std.specs.List.{list_any}
use Rattle.std.specs.BTreeSet.{BTreeSet, contains}
use Rattle.fpga_types.specs.Places.{same_spot, spot_of}
use Rattle.fpga_types.specs.SpotOrder.{spot_cmp}
use Rattle.fpga_types.specs.declared.netlist.Block.{Block}
use Rattle.fpga_types.specs.declared.placement.Place.{Place}
use Rattle.fpga_types.specs.declared.placement.Spot.{Spot}

-- the spots of the blocks that have a place
abbrev pub spots : List Block → List (Option Place) → List Spot
spots (block ∷ blocks) (Some place ∷ places) = spot_of block.kind place ∷ spots blocks places
spots (block ∷ blocks) (None ∷ places) = spots blocks places
spots _ _ = []

-- a block has this spot
abbrev pub has_spot : List Block → List (Option Place) → Spot → Bool
has_spot blocks places spot = list_any (same_spot spot) (spots blocks places)

-- the set has exactly the spots of the blocks
abbrev pub HasSpots : List Block → List (Option Place) → BTreeSet Spot → Type 0
HasSpots blocks places taken =
    (spot : Spot) → contains spot_cmp taken spot ≡ has_spot blocks places spot

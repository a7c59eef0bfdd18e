-- The spots of the blocks at which nets end.
use Rattle.std.specs.Prelude.{◌≡◌, ℕ, Bool, true, false, ◌&&◌, ◌||◌, List, Option, Some, None, if◌then◌else◌}
use Rattle.std.specs.BTreeSet.{BTreeSet, contains}
use Rattle.std.specs.List.{list_any}
use Rattle.fpga_types.specs.Places.{same_spot, spot_of}
use Rattle.fpga_types.specs.SpotOrder.{spot_cmp}
use Rattle.fpga_types.specs.Terminals.{is_ordinary_input}
use Rattle.fpga_types.specs.declared.arch.Arch.{Arch}
use Rattle.fpga_types.specs.declared.netlist.Block.{Block}
use Rattle.fpga_types.specs.declared.netlist.BlockKind.{BlockKind}
use Rattle.fpga_types.specs.declared.netlist.BlockKind.TheVariants.{Input, Output, Logic}
use Rattle.fpga_types.specs.declared.placement.Place.{Place}
use Rattle.fpga_types.specs.declared.placement.Spot.{Spot}
use Rattle.fpga_types.specs.declared.placement.Spot.TheVariants.{Block as BlockAt, Pad as PadAt}
use Rattle.fpga_types.specs.declared.route.Label.{Label}
use Rattle.fpga_types.specs.declared.route.Label.TheVariants.{Pin, Pad}

-- the spot of the block that a pin line with this label and number says, where it may be an input
abbrev pub input_spot : Arch → (x y : ℕ) → Label → (number : ℕ) → Option Spot
input_spot arch x y Pin pin = if is_ordinary_input arch pin then Some (BlockAt x y) else None
input_spot arch x y Pad sub = Some (PadAt x y sub)
input_spot arch x y _ number = None

-- nets may end at a block of this kind
abbrev pub ends_nets : BlockKind → Bool
ends_nets Logic = true
ends_nets Output = true
ends_nets Input = false

-- nets may end at the block, and it stands on this spot
abbrev pub ends_nets_at : Spot → Block × Place → Bool
ends_nets_at spot placed = ends_nets placed.0.kind
    && same_spot spot (spot_of placed.0.kind placed.1)

-- the set has exactly the spots of the blocks at which nets may end
abbrev pub HasInputs : BTreeSet Spot → List (Block × Place) → Type 0
HasInputs spots placed = (spot : Spot) → contains spot_cmp spots spot
    ≡ list_any (ends_nets_at spot) placed

-- the set afterwards has the block's spot too, if nets may end there
abbrev pub GainsInput : BTreeSet Spot → Block × Place → BTreeSet Spot → Type 0
GainsInput before placed after = (spot : Spot) → contains spot_cmp after spot
    ≡ (contains spot_cmp before spot || ends_nets_at spot placed)

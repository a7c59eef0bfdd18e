-- What is true of each placement that was read for an architecture and a netlist.
use Rattle.std.specs.Prelude.{◌≡◌, ◌≢◌, ℕ, ◌<◌, IsTrue, AllPairs, List, length, slice_get, Some}
use Rattle.fpga_types.specs.Places.{is_lawful, spot_of}
use Rattle.fpga_types.specs.Size.{Size}
use Rattle.fpga_types.specs.declared.arch.Arch.{Arch}
use Rattle.fpga_types.specs.declared.netlist.Block.{Block}
use Rattle.fpga_types.specs.declared.netlist.Netlist.{Netlist}
use Rattle.fpga_types.specs.declared.placement.Place.{Place}
use Rattle.fpga_types.specs.declared.placement.Placement.{Placement}

-- no two blocks have one name
abbrev pub HaveOwnNames : List Block → Type 0
HaveOwnNames blocks = AllPairs (λ (a b : Block). a.name ≢ b.name) blocks

-- the block with this number stands at this place
pub record StandsAt (blocks : List Block) (places : List Place) (number : ℕ) (block : Block)
    (place : Place) : Type 0 where
  pub block_is : slice_get blocks number ≡ Some block
  pub place_is : slice_get places number ≡ Some place

-- each place is lawful for its block, where a place beside the array has room for `io_rat` pads,
-- and no two blocks share a spot
pub record AreLawful (grid : Size) (io_rat : ℕ) (blocks : List Block) (places : List Place) : Type 0
  where
    pub lawful : (number : ℕ) (block : Block) (place : Place)
        → StandsAt blocks places number block place
        → IsTrue (is_lawful grid io_rat block.kind place)
    pub apart : (i j : ℕ) (a b : Block) (p q : Place) → i < j → StandsAt blocks places i a p
        → StandsAt blocks places j b q → spot_of a.kind p ≢ spot_of b.kind q

-- each of these blocks has a place; and the places are lawful where no two blocks have one name
pub record IsSoundFor (io_rat : ℕ) (blocks : List Block) (placement : Placement) : Type 0 where
  pub count : length placement.places ≡ length blocks
  pub lawful : HaveOwnNames blocks → AreLawful placement.grid io_rat blocks placement.places

-- the same of the blocks of a netlist; those of a netlist that was read have names of their own
abbrev pub IsSoundPlacement : Arch → Netlist → Placement → Type 0
IsSoundPlacement arch netlist placement = IsSoundFor arch.io_rat netlist.blocks placement

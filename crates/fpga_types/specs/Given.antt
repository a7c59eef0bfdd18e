-- What is asked of the four values of a routing problem before they are fitted; the readers of
-- their texts give it.
use Rattle.std.specs.Prelude.{◌≡◌, ℕ, ◌<◌, IsTrue, All, length, slice_get, Option, Some}
use Rattle.std.specs.Option.{ForSome}
use Rattle.fpga_types.specs.Places.{is_lawful}
use Rattle.fpga_types.specs.Placements.{StandsAt}
use Rattle.fpga_types.specs.Problem.{RoutingProblem}
use Rattle.fpga_types.specs.Sound.{IsSound}
use Rattle.fpga_types.specs.declared.arch.Arch.{Arch}
use Rattle.fpga_types.specs.declared.netlist.Block.{Block}
use Rattle.fpga_types.specs.declared.netlist.BlockKind.{BlockKind}
use Rattle.fpga_types.specs.declared.netlist.BlockKind.TheVariants.{Input, Output, Logic}
use Rattle.fpga_types.specs.declared.netlist.Net.{Net}
use Rattle.fpga_types.specs.declared.netlist.Netlist.{Netlist}
use Rattle.fpga_types.specs.declared.netlist.PinRef.{PinRef}
use Rattle.fpga_types.specs.declared.placement.Place.{Place}
use Rattle.fpga_types.specs.declared.placement.Placement.{Placement}

-- how many pins a block of this kind has
abbrev pub pin_count : Arch → BlockKind → ℕ
pin_count arch Logic = length arch.pins
pin_count arch Input = 1
pin_count arch Output = 1

-- the block is there, and has the pin
abbrev pub IsPinOf : Netlist → PinRef → Type 0
IsPinOf netlist pin = (block : Block) × (slice_get netlist.blocks pin.block ≡ Some block)
    × (pin.pin < length block.pins)

-- the block has one entry for each pin of its kind, and each net on them is there
pub record IsGivenBlock (arch : Arch) (net_count : ℕ) (block : Block) : Type 0 where
  pub pins : length block.pins ≡ pin_count arch block.kind
  pub nets : All (λ (pin : Option ℕ). ForSome pin (λ net. net < net_count)) block.pins

-- the driver of the net, if it has one, and its sinks are there
pub record IsGivenNet (netlist : Netlist) (net : Net) : Type 0 where
  pub driver : ForSome net.driver (IsPinOf netlist)
  pub sinks : All (IsPinOf netlist) net.sinks

-- each block has its pins, and whatever is named by a number is there
pub record IsGivenNetlist (arch : Arch) (netlist : Netlist) : Type 0 where
  pub blocks : All (IsGivenBlock arch (length netlist.nets)) netlist.blocks
  pub nets : All (IsGivenNet netlist) netlist.nets

-- each block has a place, and may stand there
pub record IsPlaced (arch : Arch) (netlist : Netlist) (placement : Placement) : Type 0 where
  pub count : length placement.places ≡ length netlist.blocks
  pub lawful : (number : ℕ) (block : Block) (place : Place)
      → StandsAt netlist.blocks placement.places number block place
      → IsTrue (is_lawful placement.grid arch.io_rat block.kind place)

-- what is asked of the four values: nothing but this, and that they fit, is asked of a problem
pub record IsGiven (p : RoutingProblem) : Type 0 where
  pub netlist : IsGivenNetlist p.arch p.netlist
  pub placement : IsPlaced p.arch p.netlist p.placement
  pub route : IsSound p.route

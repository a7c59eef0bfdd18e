-- What is true of each netlist that was read with an architecture.
use Rattle.std.specs.Prelude.{◌≡◌, ℕ, ◌<◌, ◌≤◌, false, All, List, length, map, slice_get, Option, Some, IsSome}
use Rattle.std.specs.Option.{ForSome}
use Rattle.fpga_types.specs.declared.arch.Arch.{Arch}
use Rattle.fpga_types.specs.declared.limits.TheConstants.{NET_LIMIT}
use Rattle.fpga_types.specs.declared.netlist.Block.{Block}
use Rattle.fpga_types.specs.declared.netlist.Net.{Net}
use Rattle.fpga_types.specs.declared.netlist.Netlist.{Netlist}
use Rattle.fpga_types.specs.declared.netlist.PinRef.{PinRef}
use Rattle.fpga_net.specs.declared.limits.TheConstants.{BLOCK_LIMIT}
use Rattle.fpga_net.specs.Names.{AreApart}
use Rattle.fpga_net.specs.Uses.{pins_of}

-- the pin is one of a block, and the net with this number is on it
abbrev pub IsOn : List Block → ℕ → PinRef → Type 0
IsOn blocks net at = (block : Block) × (slice_get blocks at.block ≡ Some block)
    × (slice_get block.pins at.pin ≡ Some (Some net))

-- the block has its pins, and the nets on them are there
pub record IsSoundBlock (arch : Arch) (net_count : ℕ) (block : Block) : Type 0 where
  pub pins : length block.pins ≡ length (pins_of arch block.kind)
  pub nets : All (λ (pin : Option ℕ). ForSome pin (λ net. net < net_count)) block.pins

-- the net with this number is on its driver and its sinks; an ordinary net has both
pub record IsSoundNet (blocks : List Block) (number : ℕ) (net : Net) : Type 0 where
  pub driver : ForSome net.driver (IsOn blocks number)
  pub sinks : All (IsOn blocks number) net.sinks
  pub driven : net.global ≡ false → IsSome net.driver
  pub ended : net.global ≡ false → 1 ≤ length net.sinks

-- nets and blocks are sound, their names differ, and there are no more than may be
pub record IsSoundNetlist (arch : Arch) (netlist : Netlist) : Type 0 where
  pub net_count : length netlist.nets ≤ NET_LIMIT
  pub block_count : length netlist.blocks ≤ BLOCK_LIMIT
  pub blocks : All (IsSoundBlock arch (length netlist.nets)) netlist.blocks
  pub nets : (i : ℕ) (net : Net) → slice_get netlist.nets i ≡ Some net
      → IsSoundNet netlist.blocks i net
  pub net_names : AreApart (map (λ (net : Net). net.name) netlist.nets)
  pub block_names : AreApart (map (λ (block : Block). block.name) netlist.blocks)

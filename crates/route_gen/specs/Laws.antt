-- What the texts of generated problems read as.
use Rattle.std.specs.Prelude.{◌≡◌, ℕ, ◌*◌, ◌<◌, Bool, true, false, All, Contains, List, [], ◌∷◌, ◌++◌, length, map, replicate, slice_get, Option, Some}
use Rattle.std.specs.List.{enumerate_from, range_with_len}
use Rattle.std.specs.Option.{option_to_list}
use Rattle.fpga_net.specs.Names.{AreApart}
use Rattle.fpga_net.specs.Uses.{ListedBlock}
use Rattle.fpga_net.specs.Value.{netlist_of}
use Rattle.fpga_text.specs.Bytes.{Bytes}
use Rattle.fpga_types.specs.declared.arch.Arch.{Arch}
use Rattle.fpga_types.specs.declared.arch.Pattern.TheVariants.{Subset}
use Rattle.fpga_types.specs.declared.arch.PinSpec.{PinSpec}
use Rattle.fpga_types.specs.declared.netlist.Block.{Block}
use Rattle.fpga_types.specs.declared.netlist.BlockKind.TheVariants.{Logic}
use Rattle.fpga_types.specs.declared.netlist.Net.{Net}
use Rattle.fpga_types.specs.declared.netlist.Netlist.{Netlist}
use Rattle.fpga_types.specs.declared.netlist.PinRef.{PinRef}
use Rattle.fpga_types.specs.declared.placement.Place.{Place}
use Rattle.fpga_types.specs.declared.placement.Placement.{Placement}
use Rattle.route_gen.specs.Draws.{input_table, location_of, sinks_of}
use Rattle.route_gen.specs.Netlists.{block_name, driven, net_name, pin_word}
use Rattle.route_gen.specs.declared.draws.Sink.{Sink}
use Rattle.route_gen.specs.declared.draws.TheConstants.{INPUT_COUNT}
use Rattle.route_gen.specs.declared.trace.TheConstants.{INPUT_CLASS, OUTPUT_CLASS, OUTPUT_PIN}

-- a pin at the bottom of a block
abbrev pub bottom_pin : (class : ℕ) → (output : Bool) → PinSpec
bottom_pin class output = record {
  class = class;
  output = output;
  global = false;
  sides = record { left = false; right = false; bottom = true; top = false };
}

-- the architecture
abbrev pub architecture_of_all : Arch
architecture_of_all = record {
  io_rat = 1;
  pins = replicate INPUT_COUNT (bottom_pin INPUT_CLASS false)
      ++ bottom_pin OUTPUT_CLASS true ∷ [];
  pattern = Subset;
  fc = record { fractional = true; output = 1000000; input = 1000000; pad = 1000000 };
}

-- a block, on whatever nets its pins are
abbrev pub block_on : (ℕ → List (Option ℕ)) → (block : ℕ) → Block
block_on pins block = record { name = block_name block; kind = Logic; pins = pins block }

-- the netlist has the blocks of a generated problem, in their order
pub record HasBlocks (side : ℕ) (netlist : Netlist) : Type 0 where
  pub pins : ℕ → List (Option ℕ)
  pub blocks : netlist.blocks ≡ map (block_on pins) (range_with_len 0 (side * side))

-- the place of a block
abbrev pub place_of : (side block : ℕ) → Place
place_of side block = record {
  x = (location_of side block).column;
  y = (location_of side block).row;
  sub = 0;
}

-- the placement of all blocks
abbrev pub placement_of : (side : ℕ) → Placement
placement_of side = record {
  grid = record { nx = side; ny = side };
  places = map (place_of side) (range_with_len 0 (side * side));
}

-- the words of a block's pinlist, by its number and the nets that end at it
abbrev pub pin_words : (nets : ℕ) → ℕ × List ℕ → List Bytes
pin_words nets block = map (λ pin. pin_word (slice_get block.1 pin)) (range_with_len 0 INPUT_COUNT)
    ++ pin_word (driven nets block.0) ∷ []

-- the block with these words
abbrev pub listed_block : (nets : ℕ) → ℕ × List ℕ → ListedBlock
listed_block nets block =
    record { name = block_name block.0; kind = Logic; nets = pin_words nets block }

-- the netlist of all blocks, by the nets that end at each; no net is global
abbrev pub netlist_to : (nets : ℕ) → List (List ℕ) → Netlist
netlist_to nets ends =
    netlist_of architecture_of_all (λ name. false) (map (listed_block nets) (enumerate_from 0 ends))

-- the netlist that a seed gives
abbrev pub netlist_of_all : (seed side nets : ℕ) → Netlist
netlist_of_all seed side nets = netlist_to nets (input_table side (sinks_of seed side nets))

-- the input of a block where a net ends
abbrev pub input_at : Sink → PinRef
input_at sink = record { block = sink.block; pin = sink.pin }

-- a net: the block of its number drives it, and it ends at its sink
abbrev pub drawn_net : List Sink → (net : ℕ) → Net
drawn_net sinks net = record {
  name = net_name net;
  global = false;
  driver = Some (record { block = net; pin = OUTPUT_PIN });
  sinks = map input_at (option_to_list (slice_get sinks net));
}

-- the net is one of those that end at these sinks
pub record IsDrawn (sinks : List Sink) (net : Net) : Type 0 where
  pub number : ℕ
  pub below : number < length sinks
  pub is : net ≡ drawn_net sinks number

-- the nets are those that end at these sinks, each once
pub record HasNets (sinks : List Sink) (netlist : Netlist) : Type 0 where
  pub each : (net : ℕ) → net < length sinks → Contains netlist.nets (drawn_net sinks net)
  pub others : All (IsDrawn sinks) netlist.nets
  pub apart : AreApart (map (λ (net : Net). net.name) netlist.nets)

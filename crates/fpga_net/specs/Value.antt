-- The value that a netlist text reads as.
use Rattle.std.specs.Prelude.{◌≡◌, ℕ, Bool, List, fold, map, Option, None, option_map, slice_get, if◌then◌else◌}
use Rattle.fpga_types.specs.declared.arch.Arch.{Arch}
use Rattle.fpga_types.specs.declared.netlist.Block.{Block}
use Rattle.fpga_types.specs.declared.netlist.Net.{Net}
use Rattle.fpga_types.specs.declared.netlist.Netlist.{Netlist}
use Rattle.fpga_text.specs.declared.style.Style.TheVariants.{Joined}
use Rattle.fpga_text.specs.Bytes.{Bytes}
use Rattle.fpga_text.specs.FirstFault.{IsFaultless}
use Rattle.fpga_text.specs.Words.{TextLine, text_lines}
use Rattle.fpga_net.specs.Codes.{Context, before_all, behind, forms_of, globals_of, is_global, net_faults}
use Rattle.fpga_net.specs.Names.{number_of}
use Rattle.fpga_net.specs.Uses.{Use, ListedBlock, is_open, uses_of, on_net, drivers, sinks, nets_of}

-- the number of the net that a word of a pinlist names, if it names one
abbrev pub net_on : List Bytes → Bytes → Option ℕ
net_on nets word = if is_open word then None else number_of nets word

-- the block, with the number of the net on each pin
abbrev pub block_of : List Bytes → ListedBlock → Block
block_of nets block =
    record { name = block.name; kind = block.kind; pins = map (net_on nets) block.nets }

-- the net with this name: its first driver, and its sinks in the order of their words
abbrev pub net_of : (Bytes → Bool) → List Use → Bytes → Net
net_of global uses name = record {
  name = name;
  global = global name;
  driver = option_map (λ (u : Use). u.at) (slice_get (on_net name (drivers uses)) 0);
  sinks = map (λ u. u.at) (on_net name (sinks uses));
}

-- the netlist of these blocks: its nets stand in the order in which the pinlists name them first
abbrev pub netlist_of : Arch → (Bytes → Bool) → List ListedBlock → Netlist
netlist_of arch global blocks = let uses = uses_of arch blocks in record {
  nets = map (net_of global uses) (nets_of uses);
  blocks = map (block_of (nets_of uses)) blocks;
}

-- the netlist of the blocks that stand before
abbrev pub netlist_before : Context → Netlist
netlist_before context = netlist_of context.arch (is_global context) context.blocks

-- what stands before the end of these lines
abbrev pub context_of : Arch → List TextLine → Context
context_of arch lines = fold behind (before_all arch (globals_of lines)) (forms_of lines)

-- the netlist that a text says
abbrev pub net_value : Arch → Bytes → Netlist
net_value arch text = netlist_before (context_of arch (text_lines Joined text))

-- the text has no fault, and reads as this netlist
abbrev pub ReadsNet : Arch → Bytes → Netlist → Type 0
ReadsNet arch text netlist =
    IsFaultless (net_faults arch text) × (netlist ≡ net_value arch text)

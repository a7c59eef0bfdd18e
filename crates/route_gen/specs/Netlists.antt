-- The netlist of a generated problem.
use Rattle.std.specs.Prelude.{ℕ, nat_lt, Option, Some, None, List, ◌++◌, flat_map, slice_get, codes, decimal, if◌then◌else◌}
use Rattle.std.specs.List.{enumerate_from, range_with_len}
use Rattle.fpga_text.specs.Bytes.{Bytes}
use Rattle.route_gen.specs.Draws.{input_table, sinks_of}
use Rattle.route_gen.specs.declared.draws.TheConstants.{INPUT_COUNT}

-- the name of a net, by its number
abbrev pub net_name : ℕ → Bytes
net_name net = codes "n" ++ decimal net

-- the name of a block, by its number
abbrev pub block_name : ℕ → Bytes
block_name block = codes "b" ++ decimal block

-- the word of a pin: the net that it is on, or that there is none
abbrev pub pin_word : Option ℕ → Bytes
pin_word (Some net) = net_name net
pin_word None = codes "open"

-- the net that a block drives
abbrev pub driven : (nets block : ℕ) → Option ℕ
driven nets block = if nat_lt block nets then Some block else None

-- the word of an input, and a blank: the nets that end at the block are on the first inputs
abbrev pub input_word : List ℕ → (pin : ℕ) → Bytes
input_word ends pin = pin_word (slice_get ends pin) ++ codes " "

-- the words of a block's inputs
abbrev pub input_words : List ℕ → Bytes
input_words ends = flat_map (input_word ends) (range_with_len 0 INPUT_COUNT)

-- the first line of a block, and what its second one begins with
abbrev pub block_start : (block : ℕ) → Bytes
block_start block = codes ".clb " ++ block_name block ++ codes "\npinlist: "

-- the two lines of a block, by its number and the nets that end at it
abbrev pub block_lines : (nets : ℕ) → ℕ × List ℕ → Bytes
block_lines nets block = block_start block.0 ++ input_words block.1
    ++ pin_word (driven nets block.0) ++ codes "\n"

-- the lines of all blocks, by the nets that end at each
abbrev pub netlist_of : (nets : ℕ) → List (List ℕ) → Bytes
netlist_of nets ends = flat_map (block_lines nets) (enumerate_from 0 ends)

-- the netlist that a seed gives
abbrev pub generated_netlist : (seed side nets : ℕ) → Bytes
generated_netlist seed side nets = netlist_of nets (input_table side (sinks_of seed side nets))

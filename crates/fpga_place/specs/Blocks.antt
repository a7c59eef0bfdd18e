-- The blocks of a netlist by their names.
use Rattle.std.specs.Prelude.{ℕ, Bool, List, find, bytes_eq, Option}
use Rattle.std.specs.List.{position_from}
use Rattle.fpga_types.specs.declared.netlist.Block.{Block}
use Rattle.fpga_text.specs.Bytes.{Bytes}

-- the block has this name
abbrev pub has_name : Bytes → Block → Bool
has_name name block = bytes_eq block.name name

-- the first block with this name
abbrev pub block_named : List Block → Bytes → Option Block
block_named blocks name = find (has_name name) blocks

-- the number of the first block with this name
abbrev pub number_named : List Block → Bytes → Option ℕ
number_named blocks name = position_from (has_name name) 0 blocks

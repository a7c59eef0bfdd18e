-- Which form a line of a netlist has, by its words: a profile of the netlist text of VPR 4.30.
use Rattle.std.specs.Prelude.{Bool, true, false, List, [], ◌∷◌, codes, bytes_eq, flat_map, if◌then◌else◌}
use Rattle.fpga_types.specs.declared.netlist.BlockKind.{BlockKind}
use Rattle.fpga_types.specs.declared.netlist.BlockKind.TheVariants.{Input, Output, Logic}
use Rattle.fpga_text.specs.Bytes.{Bytes}
use Rattle.fpga_text.specs.Words.{Words}

-- what a line says: it begins a block with these names, names the nets of the block's pins, speaks
-- of a part of a logic block, names global nets, or has no form
pub data Form : Type 0 where
  Begins : BlockKind → List Bytes → Form
  Pinlist : List Bytes → Form
  Subblock : Form
  Globals : List Bytes → Form
  Other : Form

-- the form of a line with this first word and these others
abbrev pub form_by : Bytes → List Bytes → Form
form_by first rest =
    if bytes_eq first (codes ".input") then Begins Input rest
    else if bytes_eq first (codes ".output") then Begins Output rest
    else if bytes_eq first (codes ".clb") then Begins Logic rest
    else if bytes_eq first (codes "pinlist:") then Pinlist rest
    else if bytes_eq first (codes "subblock:") then Subblock
    else if bytes_eq first (codes ".global") then Globals rest
    else Other

-- the form of a line
abbrev pub form_of : Words → Form
form_of [] = Other
form_of (first ∷ rest) = form_by first rest

-- the nets that a line makes global
abbrev pub made_global : Form → List Bytes
made_global (Globals nets) = nets
made_global _ = []

-- the line names global nets
abbrev pub is_globals : Form → Bool
is_globals (Globals nets) = true
is_globals _ = false

-- the nets that any of the lines makes global
abbrev pub globals_in : List Form → List Bytes
globals_in forms = flat_map made_global forms

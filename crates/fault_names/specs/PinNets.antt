-- The nets on the pins of blocks, as the lines of a netlist name them.
use Rattle.std.specs.Prelude.{Bool, true, false, not, List, [], ◌∷◌, ◌++◌, bytes_eq, codes, drop, option_and_then, slice_get, Option, Some, None, if◌then◌else◌}
use Rattle.fpga_text.specs.Bytes.{Bytes}
use Rattle.fpga_text.specs.Words.{TextLine, Words, text_lines}
use Rattle.fpga_text.specs.declared.style.Style.TheVariants.{Joined}
use Rattle.fpga_types.specs.declared.arch.PinSpec.{PinSpec}
use Rattle.fpga_types.specs.declared.netlist.BlockKind.{BlockKind}
use Rattle.fpga_types.specs.declared.netlist.BlockKind.TheVariants.{Input, Output, Logic}

-- the kind of the block that a line with this first word begins
abbrev pub kind_named : Bytes → Option BlockKind
kind_named word =
    if bytes_eq word (codes ".input") then Some Input else
    if bytes_eq word (codes ".output") then Some Output else
    if bytes_eq word (codes ".clb") then Some Logic else
    None

abbrev pub kind_begun : Words → Option BlockKind
kind_begun words = option_and_then kind_named (slice_get words 0)

-- the one pin of a pad: it drives its net or does not
abbrev pub pad_pin : (output : Bool) → PinSpec
pad_pin output = record {
  class = 0;
  output = output;
  global = false;
  sides = record { left = false; right = false; bottom = false; top = false };
}

-- the pins of a block of this kind, where a logic block has these
abbrev pub pins_of : List PinSpec → BlockKind → List PinSpec
pins_of pins Input = pad_pin true ∷ []
pins_of pins Output = pad_pin false ∷ []
pins_of pins Logic = pins

-- the pin drives its net, or the net ends there
abbrev pub is_sought : (drives : Bool) → PinSpec → Bool
is_sought drives pin = if drives then pin.output else not pin.output

abbrev pub net_here : (drives : Bool) → PinSpec → Bytes → List Bytes
net_here drives pin word = if is_sought drives pin then word ∷ [] else []

-- of the words of a pinlist, those on such pins
abbrev pub nets_on : (drives : Bool) → List PinSpec → Words → List Bytes
nets_on drives [] words = []
nets_on drives (pin ∷ pins) [] = []
nets_on drives (pin ∷ pins) (word ∷ words) = net_here drives pin word ++ nets_on drives pins words

-- the same of these words behind a line that begins a block of this kind
abbrev pub nets_behind : (drives : Bool) → List PinSpec → Option BlockKind → Words → List Bytes
nets_behind drives pins None words = []
nets_behind drives pins (Some kind) words = nets_on drives (pins_of pins kind) words

-- the same of these lines
abbrev pub nets_along : (drives : Bool) → List PinSpec → Option BlockKind → List TextLine
    → List Bytes
nets_along drives pins begun [] = []
nets_along drives pins begun (line ∷ more) =
    nets_behind drives pins begun (drop 1 line.words)
    ++ nets_along drives pins (kind_begun line.words) more

-- the words that a netlist has for the pins that drive their nets, or for those at which nets end
abbrev pub pin_nets : (drives : Bool) → List PinSpec → Bytes → List Bytes
pin_nets drives pins text = nets_along drives pins None (text_lines Joined text)

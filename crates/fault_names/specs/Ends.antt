-- What a netlist, a placement or a route lacks, by its name.
use Rattle.std.specs.Prelude.{ℕ, ◌++◌, Bool, not, true, false, List, [], ◌∷◌, codes, map, Option}
use Rattle.std.specs.Option.{option_map_or}
use Rattle.fpga_text.specs.Bytes.{Bytes}
use Rattle.fpga_types.specs.declared.arch.PinSpec.{PinSpec}
use Rattle.fpga_types.specs.declared.route.RouteNet.{RouteNet}
use Rattle.fault_names.specs.LinesBy.{first_words, words_behind}
use Rattle.fault_names.specs.Lookups.{first_again, first_apart}
use Rattle.fault_names.specs.NameBytes.{name_said}
use Rattle.fault_names.specs.PinNets.{pin_nets}

-- what a pinlist may name but ordinary nets
abbrev pub not_ordinary : Bytes → List Bytes
not_ordinary text = codes "open" ∷ words_behind (codes ".global") text

-- the first ordinary net that has a driver a second time
abbrev pub twice_driven : List PinSpec → Bytes → Option Bytes
twice_driven pins text = first_again (not_ordinary text) [] (pin_nets true pins text)

-- the first ordinary net on the pins of one direction that is on none of the other
abbrev pub one_sided : (drives : Bool) → List PinSpec → Bytes → Option Bytes
one_sided drives pins text =
    first_apart (not_ordinary text ++ pin_nets (not drives) pins text) (pin_nets drives pins text)

-- the first block without a line in a placement: of input pads, of output pads, of logic blocks
abbrev pub block_names : Bytes → List Bytes
block_names text = words_behind (codes ".input") text ++ words_behind (codes ".output") text
    ++ words_behind (codes ".clb") text

abbrev pub unplaced : (text place : Bytes) → Option Bytes
unplaced text place = first_apart (first_words place) (block_names text)

-- the first ordinary net that is none of these
abbrev pub names_of : List RouteNet → List Bytes
names_of nets = map (λ (net : RouteNet). net.name) nets

abbrev pub unrouted : Bytes → List RouteNet → Option Bytes
unrouted text nets =
    first_apart (not_ordinary text ++ names_of nets) (words_behind (codes "pinlist:") text)

-- ---- the words

abbrev pub net_said : Bytes → List ℕ
net_said name = codes ": net " ++ name_said name

abbrev pub second_said : Bytes → List ℕ
second_said name = net_said name ++ codes " has a second one here"

abbrev pub none_said : Bytes → List ℕ
none_said name = net_said name ++ codes " has none"

abbrev pub block_said : Bytes → List ℕ
block_said name = codes ": block " ++ name_said name

-- which net has a driver twice, or else has none
abbrev pub driver_said : List PinSpec → Bytes → List ℕ
driver_said pins text = option_map_or second_said (twice_driven pins text)
    (option_map_or none_said (one_sided false pins text) [])

-- which net has no sink
abbrev pub no_sink_said : List PinSpec → Bytes → List ℕ
no_sink_said pins text = option_map_or net_said (one_sided true pins text) []

-- which block has no place
abbrev pub no_place_said : (text place : Bytes) → List ℕ
no_place_said text place = option_map_or block_said (unplaced text place) []

-- which net has no Net line
abbrev pub no_line_said : Bytes → List RouteNet → List ℕ
no_line_said text nets = option_map_or net_said (unrouted text nets) []

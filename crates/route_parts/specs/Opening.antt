-- The pins of a terminal, and the wires that they open, as whole lists.
use Rattle.std.specs.Prelude.{ℕ, Bool, ◌&&◌, List, [], ◌∷◌, filter, flat_map, length, map}
use Rattle.std.specs.List.{range_with_len}
use Rattle.std.specs.Option.{option_map_or}
use Rattle.fpga_graph.specs.GraphOf.{GraphOf}
use Rattle.fpga_graph.specs.Wires.{opened_wires}
use Rattle.fpga_types.specs.Problem.{PlacedNetlist}
use Rattle.fpga_types.specs.Terminals.{driver_in, is_of_class, is_ordinary_pin}
use Rattle.fpga_types.specs.declared.arch.Arch.{Arch}
use Rattle.fpga_types.specs.declared.grid.PinAt.{PinAt}
use Rattle.fpga_types.specs.declared.grid.PinAt.TheVariants.{Pad as PadAt, Pin as PinOf}
use Rattle.fpga_types.specs.declared.grid.Wire.{Wire}
use Rattle.fpga_types.specs.declared.netlist.Net.{Net}
use Rattle.fpga_types.specs.declared.problem.Terminal.{Terminal}
use Rattle.fpga_types.specs.declared.route.Label.{Label}
use Rattle.fpga_types.specs.declared.route.Label.TheVariants.{Class, Pad, Pin, Track}

-- the pin is one of the class, and takes ordinary nets
abbrev pub is_open_pin : Arch → (class pin : ℕ) → Bool
is_open_pin arch class pin = is_of_class arch class pin && is_ordinary_pin arch pin

-- the pins of a class at a place that take ordinary nets
abbrev pub class_pins : Arch → (x y class : ℕ) → List PinAt
class_pins arch x y class = map (λ pin. PinOf x y pin)
    (filter (is_open_pin arch class) (range_with_len 0 (length arch.pins)))

-- the pins of a terminal that take ordinary nets
abbrev pub terminal_pins : Arch → (x y : ℕ) → Label → (number : ℕ) → List PinAt
terminal_pins arch x y Class class = class_pins arch x y class
terminal_pins arch x y Pad sub = PadAt x y sub ∷ []
terminal_pins arch x y Pin number = []
terminal_pins arch x y Track number = []

-- the wires that pins of a terminal open
abbrev pub terminal_wires : GraphOf → Terminal → List Wire
terminal_wires g at =
    flat_map (opened_wires g) (terminal_pins g.arch at.x at.y at.label at.number)

-- the wires that pins of a net's driver open
abbrev pub driven_wires : PlacedNetlist → GraphOf → Net → List Wire
driven_wires placed g net = option_map_or (terminal_wires g) (driver_in placed net) []

-- Where nets begin and end, by their netlist and its placement, in the words of a route.
use Rattle.std.specs.Prelude.{ℕ, ◌==◌, Bool, true, false, not, ◌&&◌, List, [], zip, find, filter_map, slice_get, bytes_eq, Option, Some, option_map, option_and_then}
use Rattle.std.specs.List.{list_any}
use Rattle.std.specs.Option.{option_map_or}
use Rattle.fpga_text.specs.Bytes.{Bytes}
use Rattle.fpga_types.specs.Kinds.{same_label}
use Rattle.fpga_types.specs.Problem.{PlacedNetlist, RoutingProblem, placed_netlist_of}
use Rattle.fpga_types.specs.declared.arch.Arch.{Arch}
use Rattle.fpga_types.specs.declared.arch.PinSpec.{PinSpec}
use Rattle.fpga_types.specs.declared.netlist.Block.{Block}
use Rattle.fpga_types.specs.declared.netlist.BlockKind.{BlockKind}
use Rattle.fpga_types.specs.declared.netlist.BlockKind.TheVariants.{Input, Output, Logic}
use Rattle.fpga_types.specs.declared.netlist.Net.{Net}
use Rattle.fpga_types.specs.declared.netlist.PinRef.{PinRef}
use Rattle.fpga_types.specs.declared.placement.Place.{Place}
use Rattle.fpga_types.specs.declared.problem.Terminal.{Terminal}
use Rattle.fpga_types.specs.declared.route.Elem.{Elem}
use Rattle.fpga_types.specs.declared.route.Label.{Label}
use Rattle.fpga_types.specs.declared.route.Label.TheVariants.{Class, Pin, Pad}

-- they are one terminal
abbrev pub same_terminal : Terminal → Terminal → Bool
same_terminal a b =
    a.x == b.x && a.y == b.y && same_label a.label b.label && a.number == b.number

-- the terminal that a SOURCE or SINK line names
abbrev pub named_terminal : Elem → Terminal
named_terminal e = record { x = e.x; y = e.y; label = e.label; number = e.number }

-- the line names the terminal
abbrev pub is_terminal : Elem → Terminal → Bool
is_terminal e at = same_terminal (named_terminal e) at

-- the class of pins at a place
abbrev pub class_at : Place → PinSpec → Terminal
class_at at spec = record { x = at.x; y = at.y; label = Class; number = spec.class }

-- the pad at a place
abbrev pub pad_at : Place → Terminal
pad_at at = record { x = at.x; y = at.y; label = Pad; number = at.sub }

-- the terminal of a pin of a block of this kind that stands there: the pin's class, or the pad
abbrev pub terminal_at : Arch → BlockKind → (pin : ℕ) → Place → Option Terminal
terminal_at arch Logic pin at = option_map (class_at at) (slice_get arch.pins pin)
terminal_at arch Input pin at = Some (pad_at at)
terminal_at arch Output pin at = Some (pad_at at)

-- the terminal of a pin of the netlist
abbrev pub terminal_in : PlacedNetlist → PinRef → Option Terminal
terminal_in p pin = option_and_then
    (λ (block : Block). option_and_then (terminal_at p.arch block.kind pin.pin)
    (slice_get p.placement.places pin.block)) (slice_get p.netlist.blocks pin.block)

-- the terminal that drives a net
abbrev pub driver_in : PlacedNetlist → Net → Option Terminal
driver_in p net = option_and_then (terminal_in p) net.driver

-- the terminals that a net ends at
abbrev pub sinks_in : PlacedNetlist → Net → List Terminal
sinks_in p net = filter_map (terminal_in p) net.sinks

-- the same, of a problem
abbrev pub terminal_of : RoutingProblem → PinRef → Option Terminal
terminal_of p = terminal_in (placed_netlist_of p)

abbrev pub driver_of : RoutingProblem → Net → Option Terminal
driver_of p = driver_in (placed_netlist_of p)

abbrev pub sinks_of : RoutingProblem → Net → List Terminal
sinks_of p = sinks_in (placed_netlist_of p)

-- the net has this name
abbrev pub is_net_named : Bytes → Net → Bool
is_net_named name net = bytes_eq net.name name

-- the net with this name; of two, the first
abbrev pub net_named : RoutingProblem → Bytes → Option Net
net_named p name = find (is_net_named name) p.netlist.nets

-- the terminal that drives the net with this name
abbrev pub driver_named : RoutingProblem → Bytes → Option Terminal
driver_named p name = option_and_then (driver_of p) (net_named p name)

-- the terminals that the net with this name ends at
abbrev pub sinks_named : RoutingProblem → Bytes → List Terminal
sinks_named p name = option_map_or (sinks_of p) (net_named p name) []

-- the pin is one of the class
abbrev pub is_of_class : Arch → (class pin : ℕ) → Bool
is_of_class arch class pin =
    option_map_or (λ (spec : PinSpec). spec.class == class) (slice_get arch.pins pin) false

-- the number on a pin line is that of a pin of the class, or of the pad
abbrev pub is_number_of : Arch → Label → (class : ℕ) → Label → (pin : ℕ) → Bool
is_number_of arch Class class Pin pin = is_of_class arch class pin
is_number_of arch Pad sub Pad number = sub == number
is_number_of arch _ _ _ _ = false

-- the pin line is at the terminal: a pin of its place and class, or its pad
abbrev pub is_pin_at : Arch → Terminal → Elem → Bool
is_pin_at arch at e =
    e.x == at.x && e.y == at.y && is_number_of arch at.label at.number e.label e.number

-- the pin takes ordinary nets; a pin that the architecture does not have takes none
abbrev pub is_ordinary_pin : Arch → (pin : ℕ) → Bool
is_ordinary_pin arch pin =
    option_map_or (λ (spec : PinSpec). not spec.global) (slice_get arch.pins pin) false

-- what a pin line is labelled with takes ordinary nets; a pad does
abbrev pub is_ordinary : Arch → Label → (number : ℕ) → Bool
is_ordinary arch Pin pin = is_ordinary_pin arch pin
is_ordinary arch _ number = true

-- the pin line is at the terminal, and takes ordinary nets
abbrev pub is_ordinary_pin_at : Arch → Terminal → Elem → Bool
is_ordinary_pin_at arch at e = is_pin_at arch at e && is_ordinary arch e.label e.number

-- the pin is an input, and takes ordinary nets
abbrev pub is_ordinary_input : Arch → (pin : ℕ) → Bool
is_ordinary_input arch pin =
    option_map_or (λ (spec : PinSpec). not spec.output && not spec.global) (slice_get arch.pins pin)
    false

-- a block of this kind, with this subblock number, is a sink at what a pin line is labelled with
abbrev pub takes_in : Arch → BlockKind → (sub : ℕ) → Label → (number : ℕ) → Bool
takes_in arch Logic sub Pin pin = is_ordinary_input arch pin
takes_in arch Output sub Pad number = sub == number
takes_in arch _ _ _ _ = false

-- the pin line is at an input pin of the block that takes ordinary nets, or is the output pad
abbrev pub is_input_of : Arch → Elem → Block × Place → Bool
is_input_of arch e placed = e.x == placed.1.x && e.y == placed.1.y
    && takes_in arch placed.0.kind placed.1.sub e.label e.number

-- the blocks, each with its place
abbrev pub placed_blocks : RoutingProblem → List (Block × Place)
placed_blocks p = zip p.netlist.blocks p.placement.places

-- the pin line is at an input pin of a placed logic block that takes ordinary nets, or at a placed
-- output pad
abbrev pub is_input : RoutingProblem → Elem → Bool
is_input p e = list_any (is_input_of p.arch e) (placed_blocks p)

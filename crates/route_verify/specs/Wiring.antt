-- Which lines of a detailed route are joined by the fabric: wires by a switch block, and a pin with
-- a wire by its connection box.
use Rattle.std.specs.Prelude.{◌==◌, nat_lt, Bool, true, false, not, ◌&&◌, ◌||◌, Option, Some, option_map, option_and_then, length}
use Rattle.std.specs.Option.{option_map_or}
use Rattle.fpga_graph.specs.GraphOf.{GraphOf}
use Rattle.fpga_types.specs.Boxes.{opens}
use Rattle.fpga_types.specs.Fabric.{same_cell}
use Rattle.fpga_types.specs.Slots.{elem_cell, elem_pin}
use Rattle.fpga_types.specs.Touching.{touches}
use Rattle.fpga_types.specs.Tracks.{mapped_track, track_across}
use Rattle.fpga_types.specs.declared.arch.Arch.{Arch}
use Rattle.fpga_types.specs.declared.grid.PinAt.{PinAt}
use Rattle.fpga_types.specs.declared.grid.PinAt.TheVariants.{Pad, Pin}
use Rattle.fpga_types.specs.declared.grid.Wire.{Wire}
use Rattle.fpga_types.specs.declared.route.Elem.{Elem}

-- the wire of a channel line
abbrev pub elem_wire : Elem → Option Wire
elem_wire e = option_map (λ cell. record { cell = cell; track = e.number }) (elem_cell e)

-- they are one wire
abbrev pub same_wire : Wire → Wire → Bool
same_wire u v = same_cell u.cell v.cell && u.track == v.track

-- the wire of a line, if there is a line and it is a channel line
abbrev pub wire_on : Option Elem → Option Wire
wire_on line = option_and_then elem_wire line

-- the pin of a line, if there is a line and it is a pin line
abbrev pub pin_on : Option Elem → Option PinAt
pin_on line = option_and_then elem_pin line

-- a switch block joins the two wires
abbrev pub are_joined : GraphOf → Wire → Wire → Bool
are_joined g u v = option_map_or (λ t. t == v.track)
    (track_across (mapped_track g.arch.pattern g.width) g.grid u.cell v.cell u.track) false

-- there are two wires, both of tracks below the width, and they are not joined
abbrev pub are_parted : GraphOf → Option Wire → Option Wire → Bool
are_parted g (Some u) (Some v) =
    nat_lt u.track g.width && nat_lt v.track g.width && not (are_joined g u v)
are_parted g _ _ = false

-- the pin touches the cell of the wire and opens its track
abbrev pub reaches : GraphOf → PinAt → Wire → Bool
reaches g pin wire = touches g.arch g.grid pin wire.cell && opens g.arch g.width pin wire.track

-- there are a pin and a wire of a track below the width, and the pin does not reach it
abbrev pub misses : GraphOf → Option PinAt → Option Wire → Bool
misses g (Some pin) (Some wire) = nat_lt wire.track g.width && not (reaches g pin wire)
misses g _ _ = false

-- of two lines that stand next to each other in one net, two channel lines are not joined, or a pin
-- line and a channel line, in either order, are not
abbrev pub are_unconnected : GraphOf → Option Elem → Option Elem → Bool
are_unconnected g first second = are_parted g (wire_on first) (wire_on second)
    || misses g (pin_on first) (wire_on second) || misses g (pin_on second) (wire_on first)

-- the line is a channel line of a track that is not below the width
abbrev pub is_past_width : GraphOf → Option Elem → Bool
is_past_width g line =
    option_map_or (λ (wire : Wire). not (nat_lt wire.track g.width)) (wire_on line) false

-- the pin is one of the architecture; pads always are
abbrev pub has_pin : Arch → PinAt → Bool
has_pin arch (Pad x y sub) = true
has_pin arch (Pin x y pin) = nat_lt pin (length arch.pins)

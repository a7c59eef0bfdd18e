-- the pins with lower numbers that are of the class and take ordinary nets
use Rattle.std.proofs.Common.{◌≡◌, map, filter}
use Rattle.std.specs.List.{range_with_len}
use Rattle.fpga_types.specs.declared.grid.PinAt.TheVariants.{Pin as PinOf}
use Rattle.route_parts.specs.Opening.{is_open_pin}
use Rattle.route_parts.proofs.pins.class_pins.Given as goal

abbrev pub invariant-loop-pin : goal.invariant-loop-pin
invariant-loop-pin l = l.pins.items
    ≡ map (λ pin. PinOf l.x l.y pin) (filter (is_open_pin l.arch l.class) (range_with_len 0 l.pin))

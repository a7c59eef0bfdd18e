use borrow.Author.Tests.{ltb-false, ltb-true}
use Rattle.std.proofs.Common.{◌≡◌, ◌∙◌, Bool, true, false, ap, length, refl, sym}
use Rattle.std.specs.Prelude.{◌&&◌}
use Rattle.std.proofs.lemmas.Option.{slice_get_past}
use Rattle.fpga_types.specs.Boxes.{opens}
use Rattle.fpga_types.specs.Fabric.{is_cell}
use Rattle.fpga_types.specs.Pins.{HasPin}
use Rattle.fpga_types.specs.Size.{Size}
use Rattle.fpga_types.specs.Touching.{touches}
use Rattle.fpga_types.specs.declared.arch.Arch.{Arch}
use Rattle.fpga_types.specs.declared.grid.Cell.{Cell}
use Rattle.fpga_types.specs.declared.grid.PinAt.{PinAt}
use Rattle.fpga_types.specs.declared.grid.PinAt.TheVariants.{Pad, Pin}
use Rattle.route_verify.specs.Wiring.{has_pin}
use Rattle.route_verify.proofs.wiring.Wiring.reaches.Goals as goal

pin_there : (arch : Arch) (pin : PinAt) → has_pin arch pin ≡ true → HasPin arch pin
pin_there arch (Pad x y sub) is = tt
pin_there arch (Pin x y pin) is = ltb-true pin (length arch.pins) is

-- a pin that is not there touches no cell
no_pin : (arch : Arch) (grid : Size) (pin : PinAt) (cell : Cell) (opened : Bool) →
    has_pin arch pin ≡ false → false ≡ (touches arch grid pin cell && opened)
no_pin arch grid (Pad x y sub) cell opened none = cc
no_pin arch grid (Pin x y pin) cell opened none =
    rw (slice_get_past arch.pins pin (ltb-false pin (length arch.pins) none))
    (by (is_cell grid cell))
  where
    by : (b : Bool) → false ≡ ((b && false) && opened)
    by true = refl
    by false = refl

pub touches-requires : goal.touches-requires
touches-requires c =
    pin_there c.self.inside.arch.now c.args.pin (sym c.has_pin.ensures ∙ c.if-not-has_pin.false)

pub opens-requires : goal.opens-requires
opens-requires c = record {
  width = (c.self.invariant.some, c.self.invariant.most);
  pin = pin_there c.self.inside.arch.now c.args.pin (sym c.has_pin.ensures
      ∙ c.if-not-has_pin.false);
}

pub returns-then-not-has_pin : goal.returns-then-not-has_pin
returns-then-not-has_pin c = rw (← c.self.view_is)
    (no_pin c.self.inside.arch.now c.self.inside.grid c.args.pin c.args.wire.cell _
    (sym c.has_pin.ensures ∙ c.if-not-has_pin.true))

pub returns-then-touches : goal.returns-then-touches
returns-then-touches c = rw (← c.self.view_is) (c.opens.ensures.found
    ∙ ap (λ (b : Bool). b && opens c.self.inside.arch.now c.self.inside.width c.args.pin
    c.args.wire.track) c.if-touches.ensures.found)

pub returns-else-touches : goal.returns-else-touches
returns-else-touches c = rw (← c.self.view_is)
    (c.if-touches.false ∙ ap (λ (b : Bool). b && opens c.self.inside.arch.now c.self.inside.width
    c.args.pin c.args.wire.track) c.if-touches.ensures.found)

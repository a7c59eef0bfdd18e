use Rattle.std.proofs.Common.{◌≡◌, take}
use Rattle.std.specs.Prelude.{◌||◌}
use Rattle.std.specs.List.{list_any}
use Rattle.fpga_bounds.specs.Keys.{has_pin}
use Rattle.fpga_types.specs.Fit.{same_pin}
use Rattle.fpga_types.specs.declared.route.Elem.{Elem}
use Rattle.route_verify.proofs.pins.take_pins.Given as goal

abbrev pub invariant-loop-line : goal.invariant-loop-line
invariant-loop-line l = (q : Elem) → has_pin l.pins q
    ≡ (has_pin l.initial.pins q || list_any (same_pin q) (take l.line-index l.lines))

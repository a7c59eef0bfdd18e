use Rattle.std.proofs.Common.{◌≡◌, take}
use Rattle.std.specs.Prelude.{◌||◌}
use Rattle.std.specs.List.{list_any}
use Rattle.fpga_types.specs.Fit.{same_pin}
use Rattle.fpga_types.specs.declared.route.Elem.{Elem}
use Rattle.fpga_bounds.specs.Keys.{has_pin}
use Rattle.fpga_bounds.proofs.keys.take_pins.Given as goal

abbrev pub invariant-loop-e : goal.invariant-loop-e
invariant-loop-e l =
    (q : Elem) → has_pin l.pins q ≡ (has_pin l.initial.pins q || list_any (same_pin q)
    (take l.e-index l.elems))

use Rattle.std.proofs.Common.{◌≡◌, ◌∙◌, true, ap, rules, sym}
use Rattle.std.specs.Prelude.{◌&&◌}
use Rattle.fpga_bounds.specs.Keys.{has_elem}
use Rattle.fpga_types.specs.Kinds.{is_pin}
use Rattle.route_verify.specs.Pins.{as_ipin}
use Rattle.route_verify.proofs.pins.has_pin.Goals as goal

pub returns-then-is_pin : goal.returns-then-is_pin
returns-then-is_pin c =
    let pin : is_pin c.args.line.kind ≡ true = search rules in
    c.has_elem.ensures ∙ ap (has_elem c.args.pins.now) c.as_ipin.ensures
    ∙ (λ i. sym pin i && has_elem c.args.pins.now (as_ipin c.args.line))

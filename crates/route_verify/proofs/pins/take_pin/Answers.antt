use Rattle.std.proofs.Common.{◌≡◌, ◌∙◌, true, Bool, ap, rules}
use Rattle.std.specs.Prelude.{◌&&◌, ◌||◌}
use Rattle.fpga_bounds.specs.Keys.{has_elem}
use Rattle.fpga_types.specs.Fit.{same_elem}
use Rattle.fpga_types.specs.Kinds.{is_pin}
use Rattle.fpga_types.specs.declared.route.Elem.{Elem}
use Rattle.route_verify.specs.Pins.{as_ipin}
use Rattle.route_verify.proofs.GatherLemmas.{pin-more}
use Rattle.route_verify.proofs.pins.take_pin.Goals as goal

pub returns : goal.returns
returns c = λ q.
    let pin : is_pin c.args.line.kind ≡ true = search rules in
    let before : Bool = has_elem c.args.pins.now (as_ipin q) in
    ap (λ (b : Bool). is_pin q.kind && b) (c.in_ok-see.ensures (as_ipin q)
    ∙ ap (λ (e : Elem). before || same_elem (as_ipin q) e) c.as_ipin.ensures)
    ∙ pin-more q c.args.line before pin

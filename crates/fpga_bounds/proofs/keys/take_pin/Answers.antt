use Rattle.std.proofs.Common.{◌∙◌, ap, ◌≡◌, true, Bool, rules}
use Rattle.std.specs.Prelude.{◌&&◌}
use Rattle.fpga_types.specs.Kinds.{is_pin}
use Rattle.fpga_bounds.specs.Keys.{pin_key}
use Rattle.fpga_bounds.proofs.KeyLemmas.{one_more_pin}
use Rattle.fpga_bounds.proofs.keys.take_pin.Goals as goal

pub returns : goal.returns
returns c = λ q.
    let pin : is_pin c.args.e.kind ≡ true = search rules in
    ap (λ (b : Bool). is_pin q.kind && b) (c.in_ok-insert.ensures.updates.0 (pin_key q))
    ∙ one_more_pin c.pin_key.result c.args.e q _ pin c.pin_key.ensures

use Rattle.std.proofs.Common.{◌≡◌, ◌∙◌, ◌+◌, Some, true, false, ap, refl, sym}
use Rattle.std.specs.List.{list_any}
use Rattle.fpga_bounds.specs.Heads.{lacks_line}
use Rattle.fpga_text.specs.declared.fault.TextFault.{TextFault}
use Rattle.fpga_text.specs.declared.fault.TextFault.TheVariants.{Bad}
use Rattle.fpga_types.specs.Fits.{lacks_net}
use Rattle.route_verify.proofs.gathering.end_cause.Goals as goal

pub returns-then-not-lacks_net : goal.returns-then-not-lacks_net
returns-then-not-lacks_net c = λ found nets lines.
    let lacks : lacks_net (record c.args.judge.now.problem { route = found }) ≡ false =
    (λ i. list_any (lacks_line (nets i)) (sym c.names.ensures i)) ∙ sym c.lacks_net.ensures
    ∙ c.if-not-lacks_net.true in
    rw lacks refl

pub returns : goal.returns
returns c = λ found nets lines.
    let lacks : lacks_net (record c.args.judge.now.problem { route = found }) ≡ true =
    (λ i. list_any (lacks_line (nets i)) (sym c.names.ensures i)) ∙ sym c.lacks_net.ensures
    ∙ c.if-not-lacks_net.false in
    rw lacks (ap (λ (fault : TextFault). Some fault) c.at.ensures
    ∙ (λ i. Some (Bad (sym lines i + 1) 806)))

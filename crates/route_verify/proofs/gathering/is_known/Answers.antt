use Rattle.std.proofs.Common.{◌≡◌, ◌∙◌, ap, sym}
use Rattle.fpga_bounds.specs.NetTable.{number_named}
use Rattle.fpga_bounds.proofs.HeadLemmas.{not-known}
use Rattle.fpga_types.specs.declared.route.RouteNet.{RouteNet}
use Rattle.route_verify.proofs.gathering.is_known.Goals as goal

pub returns-in_default : goal.returns-in_default
returns-in_default c =
    let named : c.as_slice.result.now ≡ c.args.net.now.name =
    c.as_slice.ensures ∙ ap (λ (n : RouteNet). n.name) c.net.view_is in
    sym (not-known c.args.judge.now.problem.netlist.nets c.args.net.now.name
    c.args.net.now.global
    (sym (c.in_default.ensures.number
    ∙ (λ i. number_named (c.names.ensures i) (named i)))))

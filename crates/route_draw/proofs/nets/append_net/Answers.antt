use Rattle.std.proofs.Common.{ap, sym, ◌∙◌}
use Rattle.fpga_types.specs.declared.route.RouteNet.{RouteNet}
use Rattle.route_draw.specs.Blamed.{blame_of}
use Rattle.route_draw.proofs.PictureLemmas.{net-added}
use Rattle.route_draw.proofs.nets.append_net.Goals as goal

pub returns : goal.returns
returns c = λ layout are.
    net-added layout (blame_of c.args.emphasis.now) c.args.net.now _ c.args.number _ _ _ _ _ _ _
    (sym (ap (λ (n : RouteNet). n.global) c.net.view_is) ∙ c.if-net.false)
    (c.as_slice-name.ensures ∙ ap (λ (n : RouteNet). n.name) c.net.view_is)
    (c.as_slice.ensures ∙ ap (λ (n : RouteNet). n.elems) c.net.view_is)
    c.mark.ensures (c.as_str.ensures.value ∙ c.in_ok-colour.ensures) c.as_str-2.ensures.value
    (c.in_ok-drawn.ensures layout are)
    c.in_ok-append_group.ensures

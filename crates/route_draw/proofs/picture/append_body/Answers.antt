use Rattle.std.proofs.Common.{ap, ◌∙◌}
use Rattle.fpga_types.specs.declared.netlist.Netlist.{Netlist}
use Rattle.route_draw.specs.Blamed.{blame_of}
use Rattle.route_draw.proofs.PictureLemmas.{body-added}
use Rattle.route_draw.proofs.picture.append_body.Goals as goal

pub returns : goal.returns
returns c = λ layout are.
    body-added (record c.args.problem.now { route = c.args.route.now }) layout
    (blame_of c.args.emphasis.now) _ _ _ _ _ _ _
    (c.as_slice.ensures ∙ ap (λ (n : Netlist). n.blocks) c.netlist-netlist.ensures.value)
    (c.as_slice-2.ensures ∙ ap (λ (n : Netlist). n.nets) c.netlist-netlist.ensures.value)
    c.as_slice-3.ensures
    c.in_ok-append_blocks.ensures c.in_ok-append_global_nets.ensures
    (c.in_ok-append_nets.ensures layout are)

use Rattle.std.proofs.Common.{rules, ap, sym, ◌∙◌}
use Rattle.fpga_types.specs.declared.netlist.Net.{Net}
use Rattle.route_draw.specs.Blamed.{blame_of}
use Rattle.route_draw.proofs.PictureLemmas.{global-added}
use Rattle.route_draw.proofs.blocks.append_global_net.Goals as goal

pub returns : goal.returns
returns c =
    global-added (blame_of c.args.emphasis.now) c.args.net.now _ _ _ _ _
    (sym (ap (λ (n : Net). n.global) c.net.view_is) ∙ search (rules, c.if-not-net.false))
    (c.as_slice-name.ensures ∙ ap (λ (n : Net). n.name) c.net.view_is)
    c.mark.ensures c.in_ok-append_group.ensures

use Rattle.std.proofs.Common.{List, ℕ, length, ap, ◌∙◌, ◌++◌}
use Rattle.std.specs.Prelude.{string_bytes}
use Rattle.fpga_types.specs.declared.netlist.Block.{Block}
use Rattle.fpga_types.specs.declared.netlist.Netlist.{Netlist}
use Rattle.route_draw.specs.Blamed.{blame_of}
use Rattle.route_draw.specs.Caption.{counted}
use Rattle.route_draw.proofs.PictureLemmas.{counts-added}
use Rattle.route_draw.proofs.caption.append_counts.Goals as goal

pub returns : goal.returns
returns c =
    counts-added c.args.problem.now (blame_of c.args.emphasis.now) c.as_slice-nets.result.now _
    c.args.width _ _ _ _ _ _
    (c.as_slice-nets.ensures ∙ ap (λ (n : Netlist). n.nets) c.netlist-netlist.ensures.value)
    (ap (λ (bs : List Block). length bs)
    (c.as_slice.ensures ∙ ap (λ (n : Netlist). n.blocks) c.netlist-netlist.ensures.value))
    c.in_ok-append_text.ensures
    (c.in_ok-append_counted.ensures ∙ ap (λ (n : ℕ). string_bytes c.append_text.new.out
    ++ counted (length c.as_slice-nets.result.now) n (length c.as_slice.result.now) c.args.width)
    c.global_count.ensures)
    c.in_ok-append_blamed.ensures c.in_ok-push_str.ensures.bytes

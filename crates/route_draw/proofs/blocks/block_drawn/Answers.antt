use Rattle.std.proofs.Common.{ap, ◌∙◌}
use Rattle.fpga_types.specs.declared.netlist.Block.{Block}
use Rattle.route_draw.proofs.LabelLemmas.{labelled-made, labelled-none}
use Rattle.route_draw.proofs.blocks.block_drawn.Goals as goal

pub returns-in_default : goal.returns-in_default
returns-in_default c = labelled-none c.args.block.now.name _ c.new-out.ensures.bytes

pub returns : goal.returns
returns c =
    labelled-made c.args.block.now.name _ _ _ _ _ _ _ _ c.new-out.ensures.bytes
    c.in_ok-append_shape.ensures
    (c.as_slice-2.ensures ∙ ap (λ (b : Block). b.name) c.block.view_is)
    c.in_ok-append_label.ensures

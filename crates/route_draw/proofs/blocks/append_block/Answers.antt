use Rattle.std.proofs.Common.{ap, ◌∙◌}
use Rattle.fpga_types.specs.declared.netlist.Block.{Block}
use Rattle.route_draw.specs.Picture.{block_class}
use Rattle.route_draw.proofs.PictureLemmas.{block-added}
use Rattle.route_draw.proofs.blocks.append_block.Goals as goal

pub returns : goal.returns
returns c =
    block-added c.args.block.now _ _ _ _ _ _
    (c.block_class-class.ensures ∙ ap (λ (b : Block). block_class b.kind) c.block.view_is)
    (c.as_slice-name.ensures ∙ ap (λ (b : Block). b.name) c.block.view_is)
    c.as_str.ensures.value c.in_ok-drawn.ensures c.in_ok-append_group.ensures

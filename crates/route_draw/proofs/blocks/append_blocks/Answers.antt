use Rattle.std.proofs.Common.{rules, arith}
use Rattle.std.specs.Prelude.{string_bytes}
use Rattle.list_laws.proofs.Places.{get-there}
use Rattle.route_draw.specs.Picture.{IsBlock}
use Rattle.route_draw.proofs.PartLemmas.{added-next, added-none, added-whole}
use Rattle.route_draw.proofs.blocks.append_blocks.Goals as goal

pub loop-block-init : goal.loop-block-init
loop-block-init c = added-none IsBlock c.args.blocks.now (string_bytes c.args.out.now)

pub loop-block-preserved : goal.loop-block-preserved
loop-block-preserved c =
    let at = get-there c.args.blocks.now c.loop-block.block-index c.block-item.result
    c.block-item.result (search rules) (search rules) in
    added-next IsBlock c.args.blocks.now c.loop-block.block-index c.block-item.result _ _ _
    at c.loop-block.invariant c.in_ok-append_block.ensures

pub returns : goal.returns
returns c =
    added-whole IsBlock c.args.blocks.now c.loop-block.block-index _ _ (omega arith)
    c.loop-block.invariant

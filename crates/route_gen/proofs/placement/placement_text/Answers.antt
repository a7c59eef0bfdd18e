use Rattle.std.proofs.Common.{arith}
use Rattle.route_gen.proofs.RangeLemmas.{text_more}
use Rattle.route_gen.proofs.placement.placement_text.Goals as goal

pub loop-block-preserved : goal.loop-block-preserved
loop-block-preserved c = grind (arith, text_more)

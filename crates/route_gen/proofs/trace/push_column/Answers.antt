use Rattle.std.proofs.Common.{arith}
use Rattle.route_gen.proofs.RangeLemmas.{row_more}
use Rattle.route_gen.proofs.trace.push_column.Goals as goal

pub loop-steps-preserved : goal.loop-steps-preserved
loop-steps-preserved c = grind (arith, row_more)

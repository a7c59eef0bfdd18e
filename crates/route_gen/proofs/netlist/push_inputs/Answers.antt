use Rattle.std.proofs.Common.{arith, append_assoc}
use Rattle.route_gen.proofs.RangeLemmas.{text_more}
use Rattle.route_gen.proofs.netlist.push_inputs.Goals as goal

pub loop-pin-preserved : goal.loop-pin-preserved
loop-pin-preserved c = grind (arith, text_more, append_assoc)

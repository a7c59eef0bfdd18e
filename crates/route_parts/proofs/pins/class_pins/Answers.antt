use Rattle.std.proofs.Common.{arith}
use Rattle.std.proofs.lemmas.Grind.{common_steps}
use Rattle.fpga_graph.proofs.Ranges.{kept-push}
use Rattle.route_parts.proofs.pins.class_pins.Goals as goal

pub loop-pin-preserved : goal.loop-pin-preserved
loop-pin-preserved c = grind (arith, common_steps, kept-push)

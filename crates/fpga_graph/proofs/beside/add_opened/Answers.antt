use Rattle.std.proofs.Common.{arith}
use Rattle.std.proofs.lemmas.Grind.{common_steps}
use Rattle.fpga_graph.proofs.Ranges.{kept-push}
use Rattle.fpga_graph.proofs.beside.add_opened.Goals as goal

pub loop-track-preserved : goal.loop-track-preserved
loop-track-preserved c = grind (arith, common_steps, kept-push)

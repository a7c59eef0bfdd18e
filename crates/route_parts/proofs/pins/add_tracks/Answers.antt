use Rattle.std.proofs.Common.{arith}
use Rattle.std.proofs.lemmas.Grind.{common_steps}
use Rattle.fpga_graph.proofs.Ranges.{kept-push}
use Rattle.route_parts.proofs.pins.add_tracks.Goals as goal

pub loop-track-preserved : goal.loop-track-preserved
loop-track-preserved c = grind (arith, common_steps, kept-push)

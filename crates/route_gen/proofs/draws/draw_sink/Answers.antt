use Rattle.std.proofs.Common.{arith}
use Rattle.route_gen.proofs.PlaceLemmas.{square}
use Rattle.route_gen.proofs.draws.draw_sink.Goals as goal

pub overflow_cast-result : goal.overflow_cast-result
overflow_cast-result c = grind (arith, square)

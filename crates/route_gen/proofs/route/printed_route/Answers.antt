use Rattle.std.proofs.Common.{arith}
use Rattle.route_gen.proofs.ShelfLemmas.{text_there}
use Rattle.route_gen.proofs.route.printed_route.Goals as goal

pub unreachable-requires : goal.unreachable-requires
unreachable-requires c = grind (arith, text_there)

pub returns : goal.returns
returns c = grind (arith, text_there)

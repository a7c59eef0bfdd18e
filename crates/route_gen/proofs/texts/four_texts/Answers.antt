use Rattle.std.proofs.Common.{arith}
use Rattle.route_gen.proofs.DrawLemmas.{drawing-length, sinks-inputs, table-length}
use Rattle.route_gen.proofs.PlaceLemmas.{square}
use Rattle.route_gen.proofs.texts.four_texts.Goals as goal

pub netlist_text-requires : goal.netlist_text-requires
netlist_text-requires c = grind (arith, square, table-length)

pub route_text-requires-clause-count : goal.route_text-requires-clause-count
route_text-requires-clause-count c = grind (arith, drawing-length)

pub route_text-requires-clause-sinks : goal.route_text-requires-clause-sinks
route_text-requires-clause-sinks c = grind (arith, sinks-inputs)

use Rattle.std.proofs.Common.{arith}
use Rattle.std.proofs.lemmas.Grind.{common_steps}
use Rattle.std.proofs.lemmas.List.Elements.{filter_map-append}
use Rattle.cell_clauses.proofs.placed.Placed.add_sinks.Goals as goal

pub loop-pin-preserved : goal.loop-pin-preserved
loop-pin-preserved c = grind (arith, common_steps, filter_map-append)

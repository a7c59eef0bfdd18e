use Rattle.route_gen.proofs.PlacementLemmas.{placement-reads}
use Rattle.route_gen.proofs.laws.placement_reads.Goals as goal

pub returns : goal.returns
returns c = placement-reads

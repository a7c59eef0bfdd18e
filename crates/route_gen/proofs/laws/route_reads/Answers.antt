use Rattle.route_gen.proofs.ReadingLemmas.{route-reads}
use Rattle.route_gen.proofs.laws.route_reads.Goals as goal

pub returns : goal.returns
returns c = route-reads

use Rattle.route_bound.proofs.PartLemmas.{parted-by-cut}
use Rattle.route_bound.proofs.laws.crossing_nets_are_parted.Goals as goal

pub returns : goal.returns
returns c = parted-by-cut

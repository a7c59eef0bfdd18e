use Rattle.route_bound.proofs.CrossLemmas.{few-parted}
use Rattle.route_bound.proofs.laws.few_nets_parted.Goals as goal

pub returns : goal.returns
returns c = few-parted

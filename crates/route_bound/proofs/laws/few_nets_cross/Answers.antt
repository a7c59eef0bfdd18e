use Rattle.route_bound.proofs.PartLemmas.{few-cross}
use Rattle.route_bound.proofs.laws.few_nets_cross.Goals as goal

pub returns : goal.returns
returns c = few-cross

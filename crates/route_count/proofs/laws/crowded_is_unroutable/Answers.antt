use Rattle.route_count.proofs.CrowdedLaw.{crowded_unroutable}
use Rattle.route_count.proofs.laws.crowded_is_unroutable.Goals as goal

pub returns : goal.returns
returns c = crowded_unroutable

use Rattle.route_reach.proofs.StrictLemmas.{reach-covers-strict}
use Rattle.route_reach.proofs.laws.reach_covers_strict.Goals as goal

pub returns : goal.returns
returns c = reach-covers-strict

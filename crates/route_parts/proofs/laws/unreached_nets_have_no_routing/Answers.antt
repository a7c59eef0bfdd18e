use Rattle.route_parts.proofs.ReachLemmas.{no-routing}
use Rattle.route_parts.proofs.laws.unreached_nets_have_no_routing.Goals as goal

pub returns : goal.returns
returns c = no-routing

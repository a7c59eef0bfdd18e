use Rattle.route_ordered.proofs.OrderLemmas.{nothing_changes}
use Rattle.route_ordered.proofs.laws.order_changes_nothing.Goals as goal

pub returns : goal.returns
returns c = nothing_changes

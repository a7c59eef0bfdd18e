use Rattle.route_ordered.proofs.FairLemmas.{ordered_is_fair}
use Rattle.route_ordered.proofs.laws.ordered_clauses_are_fair.Goals as goal

pub returns : goal.returns
returns c = ordered_is_fair

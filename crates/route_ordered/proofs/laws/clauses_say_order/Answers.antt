use Rattle.route_ordered.proofs.ClauseLemmas.{clauses_say}
use Rattle.route_ordered.proofs.laws.clauses_say_order.Goals as goal

pub returns : goal.returns
returns c = clauses_say

use Rattle.route_ordered.proofs.ClauseLemmas.{unsat_unroutable}
use Rattle.route_ordered.proofs.laws.ordered_says_unroutable.Goals as goal

pub returns : goal.returns
returns c = unsat_unroutable

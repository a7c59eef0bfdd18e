use Rattle.route_pinned.proofs.EncodeLemmas.{unsat_unroutable}
use Rattle.route_pinned.proofs.laws.pinned_says_unroutable.Goals as goal

pub returns : goal.returns
returns c = unsat_unroutable

use Rattle.route_encode.proofs.ProblemExactness.{unsat-says-unroutable}
use Rattle.route_encode.proofs.laws.unsat_says_unroutable.Goals as goal

pub returns : goal.returns
returns c = unsat-says-unroutable

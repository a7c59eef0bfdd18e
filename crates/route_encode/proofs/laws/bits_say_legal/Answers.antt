use Rattle.route_encode.proofs.ProblemExactness.{bits-say-legal}
use Rattle.route_encode.proofs.laws.bits_say_legal.Goals as goal

pub returns : goal.returns
returns c = bits-say-legal

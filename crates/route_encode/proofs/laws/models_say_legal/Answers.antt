use Rattle.route_encode.proofs.ProblemExactness.{models-say-legal}
use Rattle.route_encode.proofs.laws.models_say_legal.Goals as goal

pub returns : goal.returns
returns c = models-say-legal

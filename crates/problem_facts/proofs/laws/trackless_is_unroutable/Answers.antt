use Rattle.problem_facts.proofs.TracklessLaw.{trackless-unroutable}
use Rattle.problem_facts.proofs.laws.trackless_is_unroutable.Goals as goal

pub returns : goal.returns
returns c = trackless-unroutable

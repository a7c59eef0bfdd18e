use Rattle.route_gen.proofs.LengthLemmas.{texts-short}
use Rattle.route_gen.proofs.laws.texts_are_short.Goals as goal

pub returns : goal.returns
returns c = texts-short

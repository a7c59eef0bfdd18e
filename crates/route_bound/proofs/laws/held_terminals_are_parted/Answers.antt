use Rattle.route_bound.proofs.PartLemmas.{parts-within}
use Rattle.route_bound.proofs.laws.held_terminals_are_parted.Goals as goal

pub returns : goal.returns
returns c = parts-within

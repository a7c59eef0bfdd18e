use Rattle.route_bound.proofs.SideLemmas.{two-sides}
use Rattle.route_bound.proofs.laws.cuts_have_two_sides.Goals as goal

pub returns : goal.returns
returns c = λ placed corners. two-sides corners placed

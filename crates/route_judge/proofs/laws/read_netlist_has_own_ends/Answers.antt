use Rattle.route_judge.proofs.OwnEnds.{own-ends}
use Rattle.route_judge.proofs.laws.read_netlist_has_own_ends.Goals as goal

pub returns : goal.returns
returns c = λ arch text netlist placement reads whole sound.
    own-ends arch text netlist placement reads whole sound

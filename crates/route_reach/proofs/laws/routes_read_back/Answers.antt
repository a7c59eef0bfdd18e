use Rattle.route_reach.proofs.PrintLemmas.{routes-read-back}
use Rattle.route_reach.proofs.laws.routes_read_back.Goals as goal

pub returns : goal.returns
returns c = λ width reach p sound fits narrow. routes-read-back width reach p sound fits narrow

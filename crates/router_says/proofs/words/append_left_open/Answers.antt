use Rattle.router_says.proofs.SaidLemmas.{appends-behind}
use Rattle.router_says.proofs.words.append_left_open.Goals as goal

pub returns : goal.returns
returns c = appends-behind _ _ _ _ _ c.in_ok-append_undecided.ensures c.in_ok-append_seen.ensures

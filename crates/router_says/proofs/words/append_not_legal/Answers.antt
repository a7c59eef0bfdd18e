use Rattle.router_says.proofs.SaidLemmas.{appends-behind}
use Rattle.router_says.proofs.words.append_not_legal.Goals as goal

pub returns : goal.returns
returns g c = appends-behind _ _ _ _ _ c.in_ok-append_judged_of.ensures
    c.in_ok-append_judged_line.ensures

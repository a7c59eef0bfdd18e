use Rattle.router_says.proofs.NameLemmas.{said-by-two}
use Rattle.router_says.specs.AtFault.{both_shown}
use Rattle.router_says.proofs.at_fault.append_of_two.Goals as goal

pub returns : goal.returns
returns g c = said-by-two _ (g.D.Desk.state c.text_of.new.desk) _ _ _
    (both_shown c.args.sought c.args.line) _ _ _ _ _ _ c.given_name.ensures c.given_name-2.ensures
    c.in_ok-one.ensures.files c.in_ok-one.ensures.read c.in_ok-other.ensures.read
    c.in_ok-append_by_both.ensures

use Rattle.std.proofs.lemmas.Result.{on_ok_weaker}
use Rattle.router_says.proofs.seen.append_of_problem.Goals as goal

pub returns : goal.returns
returns c =
    on_ok_weaker c.append_by_facts.result
    (λ added. (
      added.0,
      (c.in_ok-facts.facts.crowd, c.in_ok-facts.ensures.crowd, added.1),
      added.2,
    ))
    c.append_by_facts.ensures

use Rattle.std.proofs.Common.{inl}
use Rattle.std.proofs.lemmas.Result.{on_ok_weaker}
use Rattle.router_says.proofs.SeenLemmas.{where-none}
use Rattle.router_says.proofs.seen.append_by_facts.Goals as goal

pub returns-in-None : goal.returns-in-None
returns-in-None c =
    on_ok_weaker c.append_alone.result
    (λ added. (
      added.0,
      inl (
        where-none c.in_ok-crowding.field-0 c.in-None.is c.in_ok-crowding.ensures.none,
        added.1,
      ),
      added.2,
    ))
    c.append_alone.ensures

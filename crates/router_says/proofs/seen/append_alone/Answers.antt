use Rattle.std.proofs.Common.{inl, inr, refl}
use Rattle.std.proofs.lemmas.Result.{on_ok_weaker}
use Rattle.problem_facts.specs.Alone.{IsTracklessTree}
use Rattle.router_says.proofs.SeenLemmas.{where-none, where-some}
use Rattle.router_says.specs.Seen.{order_said, trackless_said}
use Rattle.router_says.proofs.seen.append_alone.Goals as goal

pub returns-in-Some : goal.returns-in-Some
returns-in-Some c =
    on_ok_weaker c.append_trackless.result
    (λ added. (
      trackless_said c.args.problem.now c.in-Some.found,
      inr (
        c.in-Some.found,
        where-some (IsTracklessTree c.args.width c.args.problem.now) c.in_ok-found.field-0
            c.in-Some.found c.in-Some.is c.in_ok-found.ensures.some,
        refl,
      ),
      added,
    ))
    c.append_trackless.ensures

pub returns-in-None : goal.returns-in-None
returns-in-None c =
    on_ok_weaker c.append_order.result
    (λ added. (
      order_said c.args.width c.args.hints c.args.problem.now,
      inl (
        where-none c.in_ok-found.field-0 c.in-None.is c.in_ok-found.ensures.none,
        refl,
      ),
      added,
    ))
    c.append_order.ensures

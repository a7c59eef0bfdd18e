use Rattle.std.specs.Prelude.{true}
use Rattle.std.proofs.lemmas.Result.{IfOk-weaker}
use Rattle.route_draw.proofs.picture.draw_routed.Goals as goal

pub returns : goal.returns
returns c =
    IfOk-weaker c.draw_route.result _ _ (λ text shows. shows true c.in_ok-lanes.ensures)
    c.draw_route.ensures

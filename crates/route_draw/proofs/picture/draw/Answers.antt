use Rattle.std.proofs.lemmas.Result.{IfOk-weaker}
use Rattle.route_draw.specs.Blamed.{blame_of}
use Rattle.route_draw.specs.Cut.{cut_of}
use Rattle.route_draw.proofs.LaneLemmas.{own-picture}
use Rattle.route_draw.proofs.picture.draw.Goals as goal

pub returns : goal.returns
returns c =
    IfOk-weaker c.draw_route.result _ _ (λ text shows.
    own-picture c.args.problem.now _ c.args.width (blame_of c.args.emphasis.now)
    (cut_of c.args.cut) _ _
    c.route.ensures.value c.in_ok-lanes.ensures shows) c.draw_route.ensures

use Rattle.std.proofs.Common.{ap, false, refl, sym, ◌∙◌}
use Rattle.fpga_types.specs.declared.route.RouteNet.{RouteNet}
use Rattle.fpga_types.specs.declared.route.RouteText.{RouteText}
use Rattle.std.specs.Prelude.{List}
use Rattle.route_draw.specs.Needs.{has_tracks}
use Rattle.route_draw.proofs.LaneLemmas.{lanes-said}
use Rattle.route_draw.proofs.lanes.Lanes.of.Goals as goal

pub returns-then-has_tracks : goal.returns-then-has_tracks
returns-then-has_tracks c =
    lanes-said c.args.problem.now.route _ c.args.width _ _
    (sym (c.has_tracks.ensures ∙ ap (λ (ns : List RouteNet). has_tracks ns)
    (c.as_slice.ensures ∙ ap (λ (r : RouteText). r.nets) c.route-route.ensures.value))
    ∙ c.if-has_tracks.true)
    c.route-route.ensures.value c.in_ok-lanes.ensures

pub returns : goal.returns
returns c =
    lanes-said c.args.problem.now.route c.args.problem.now.route c.args.width false _
    (sym (c.has_tracks.ensures ∙ ap (λ (ns : List RouteNet). has_tracks ns)
    (c.as_slice.ensures ∙ ap (λ (r : RouteText). r.nets) c.route-route.ensures.value))
    ∙ c.if-has_tracks.false)
    refl c.in_ok-lanes-2.ensures

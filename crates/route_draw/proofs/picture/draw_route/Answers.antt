use Rattle.std.proofs.Common.{List, ℕ, ap, ◌∙◌, ◌++◌}
use Rattle.std.specs.Prelude.{string_bytes}
use Rattle.route_draw.specs.Blamed.{blame_of}
use Rattle.route_draw.specs.Cut.{cut_of}
use Rattle.route_draw.specs.Wires.{layout_of}
use Rattle.route_draw.proofs.PictureLemmas.{picture-made}
use Rattle.route_draw.proofs.picture.draw_route.Goals as goal

pub returns : goal.returns
returns c = λ on_tracks are.
    picture-made (record c.args.problem.now { route = c.args.route.now })
    (layout_of on_tracks c.args.route.now c.args.width) (blame_of c.args.emphasis.now)
    (cut_of c.args.cut) c.in_ok-out.ensures.0 _ _ _ _ _ _ _ _ _ _ _
    (c.in_ok-marks.ensures on_tracks are)
    c.in_ok-out.ensures.1 c.in_ok-append_cut.ensures
    (c.in_ok-append_body.ensures (layout_of on_tracks c.args.route.now c.args.width) are)
    (c.in_ok-push_str.ensures.bytes
    ∙ ap (λ (t : List ℕ). string_bytes c.append_body.new.out ++ t) c.as_str.ensures.value)
    c.in_ok-push_str-2.ensures.bytes c.in_ok-append_rulers.ensures c.in_ok-append_counts.ensures
    (c.in_ok-push_str-3.ensures.bytes
    ∙ ap (λ (t : List ℕ). string_bytes c.append_counts.new.out ++ t) c.as_str-2.ensures.value)
    c.in_ok-push_str-4.ensures.bytes

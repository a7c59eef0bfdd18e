use Rattle.std.proofs.Common.{refl}
use Rattle.route_draw.specs.Wires.{layout_of}
use Rattle.route_draw.proofs.PictureLemmas.{marks-said}
use Rattle.route_draw.proofs.picture.crowded_marks.Goals as goal

pub returns : goal.returns
returns c = λ on_tracks are.
    marks-said (layout_of on_tracks c.args.route.now c.args.width) c.args.width
    c.in_ok-crowded.crowded _ _ _ _ _ c.needs.ensures refl c.new-text.ensures.bytes are
    c.in_ok-crowded.ensures c.in_ok-key.ensures

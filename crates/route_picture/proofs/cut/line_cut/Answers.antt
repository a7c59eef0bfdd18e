use Rattle.std.proofs.Common.{sym}
use Rattle.route_picture.proofs.CutLemmas.{line-says}
use Rattle.route_picture.proofs.cut.line_cut.Goals as goal

pub returns : goal.returns
returns c =
    line-says c.args.line.now c.next_is.new.self c.next_corner.new.line c.next_corner-2.new.line
    c.in-Some.low c.in-Some-next_corner.high c.raw.result.now
    (sym c.if-not-next_is.ensures.is) c.next_is.ensures.after c.in-Some.ensures.corner
    c.next_corner.ensures.after c.in-Some-next_corner.ensures.corner c.next_corner-2.ensures.after
    c.raw.ensures

use Rattle.std.proofs.Common.{ap}
use Rattle.std.specs.Prelude.{codes}
use Rattle.route_draw.specs.Cut.{cut_of}
use Rattle.route_draw.proofs.CutLemmas.{cut-added}
use Rattle.route_draw.proofs.cut.append_cut.Goals as goal

pub returns : goal.returns
returns c =
    cut-added c.args.grid (cut_of c.args.cut) c.in-Some.cut.range c.in-Some.cut.line.now
    (codes "#8c46ff") _ _ _ _ (ap cut_of c.in-Some.is) c.as_str.ensures.value
    c.in_ok-bands.ensures c.in_ok-append_group.ensures

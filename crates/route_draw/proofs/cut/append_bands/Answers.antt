use Rattle.route_draw.proofs.CutLemmas.{bands-next}
use Rattle.route_draw.proofs.cut.append_bands.Goals as goal

pub loop-number-preserved : goal.loop-number-preserved
loop-number-preserved c =
    bands-next c.args.grid c.args.range c.loop-number.number c.cell_of.result _ _ _
    c.cell_of.ensures.within c.cell_of.ensures.number c.in_ok-append_if_cut.ensures
    c.loop-number.invariant

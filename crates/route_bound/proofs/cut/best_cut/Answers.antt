use Rattle.std.proofs.Common.{sym, subst}
use Rattle.fpga_types.specs.Problem.{PlacedNetlist}
use Rattle.route_bound.specs.Cuts.{IsBestCut}
use Rattle.route_bound.specs.declared.cut.Cut.{Cut}
use Rattle.route_bound.proofs.CutLemmas.{cut-best}
use Rattle.route_bound.proofs.cut.best_cut.Goals as goal

pub returns : goal.returns
returns c =
    subst (λ (p : PlacedNetlist). IsBestCut p c.into_cut.result) c.in_ok-placed.ensures
    (subst (λ (cut : Cut). IsBestCut c.in_ok-placed.placed cut) (sym c.into_cut.ensures)
    (cut-best c.in_ok-placed.placed c.in_ok-crossed.crossed c.in_ok-crossed.ensures.crossed
    c.in_ok-crossed.ensures.lines))

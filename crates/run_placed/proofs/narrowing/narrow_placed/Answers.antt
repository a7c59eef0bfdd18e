use Rattle.std.proofs.Common.{subst, inl, inr}
use Rattle.fpga_types.specs.Problem.{PlacedNetlist}
use Rattle.route_bound.specs.Cuts.{IsBestCut}
use Rattle.run_placed.proofs.narrowing.narrow_placed.Goals as goal

pub returns-clause-leaves : goal.returns-clause-leaves
returns-clause-leaves g c = elim c.narrow_cut.ensures.leaves [
  | inl short ↦ inl short
  | inr leaves ↦ inr (
    c.in-Ok.cut,
    subst (λ (placed : PlacedNetlist). IsBestCut placed c.in-Ok.cut) c.placed.view_is
        c.in-Ok.ensures,
    leaves,
  )
]

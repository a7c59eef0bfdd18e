use Rattle.std.proofs.Common.{inl, inr, refl, subst}
use Rattle.fpga_types.specs.Problem.{PlacedNetlist}
use Rattle.run_placed.specs.Bound.{BoundsTo}
use Rattle.run_placed.proofs.bounding.bound_placed.Goals as goal

pub returns-in_default : goal.returns-in_default
returns-in_default g c = inl (refl, refl)

pub returns-in-Ok-say_cut : goal.returns-in-Ok-say_cut
returns-in-Ok-say_cut g c = subst (λ (placed : PlacedNetlist). BoundsTo placed
    (g.S.Shelf.state c.args.shelf.now) (g.S.Shelf.state c.say_cut.new.shelf)
    c.bound_outcome.result) c.placed.view_is
    (inr (c.in-Ok.cut, c.in-Ok.ensures, inl (c.in-Ok-say_cut.ensures, c.bound_outcome.ensures)))

pub returns : goal.returns
returns g c = subst (λ (placed : PlacedNetlist). BoundsTo placed
    (g.S.Shelf.state c.args.shelf.now) (g.S.Shelf.state c.say_cut.new.shelf) c.in-Err.stop)
    c.placed.view_is (elim c.in-Err.ensures [
      | inl short ↦ inl short
      | inr fails ↦ inr (c.in-Ok.cut, c.in-Ok.ensures, inr fails)
    ])

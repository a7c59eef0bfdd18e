use Rattle.std.proofs.Common.{List, inl, inr, refl, subst}
use Rattle.fpga_types.specs.declared.route.RouteNet.{RouteNet}
use Rattle.route_verify.specs.declared.line_cause.LineCause.{LineCause}
use Rattle.run_checks.specs.Causes.{TellsLines}
use Rattle.run_checks.proofs.verifying.judge_lines.Goals as goal

pub returns-in_default : goal.returns-in_default
returns-in_default g c = inl (refl, refl)

pub returns : goal.returns
returns g c = elim c.tell_causes.ensures [
  | inl short ↦ inl short
  | inr tells ↦ inr (
    c.in-Ok.causes.items,
    c.in-Ok.ensures,
    subst (λ (nets : List RouteNet). TellsLines nets c.in-Ok.causes.items
        (g.S.Shelf.state c.args.shelf.now) (g.S.Shelf.state c.tell_causes.new.shelf)
        c.tell_causes.result)
        c.as_slice.ensures
        (subst (λ (causes : List LineCause). TellsLines c.as_slice.result.now
        causes (g.S.Shelf.state c.args.shelf.now) (g.S.Shelf.state c.tell_causes.new.shelf)
        c.tell_causes.result)
        c.as_slice-2.ensures.value tells),
  )
]

use Rattle.std.proofs.Common.{ap, subst, inl, inr}
use Rattle.fpga_types.specs.Problem.{PlacedNetlist}
use Rattle.fpga_types.specs.declared.netlist.Netlist.{Netlist}
use Rattle.route_parts.specs.Unreached.{IsFirstNet}
use Rattle.run_placed.specs.Global.{SaysNet}
use Rattle.run_placed.proofs.negotiating.seek_route.Goals as goal

pub returns-in-Ok-Some-clause-leaves : goal.returns-in-Ok-Some-clause-leaves
returns-in-Ok-Some-clause-leaves g c =
    let first = rw c.in-Ok-Some.field-0-is at c.in-Ok-Some.ensures in
    elim c.say_unreached.ensures [
      | inl short ↦ inl short
      | inr says ↦ inr (inl (
        c.in-Ok-Some.found,
        subst (λ (placed : PlacedNetlist).
            IsFirstNet placed c.args.job.now.width c.in-Ok-Some.found)
            c.placed.view_is first,
        subst (λ (netlist : Netlist).
            SaysNet netlist c.in-Ok-Some.found.net c.args.job.now.width
            (g.S.Shelf.state c.args.shelf.now) (g.S.Shelf.state c.say_unreached.new.shelf)
            c.say_unreached.result)
            (ap (λ (p : PlacedNetlist). p.netlist) c.placed.view_is) says,
      ))
    ]

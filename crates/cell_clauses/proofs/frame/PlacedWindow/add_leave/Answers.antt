use Rattle.std.proofs.Common.{◌≡◌, All, List, ap, subst, sym, ◌∙◌, arith}
use Rattle.std.specs.Prelude.{OnOk}
use Rattle.std.specs.List.{list_any}
use Rattle.fpga_types.specs.Touching.{touches}
use Rattle.fpga_types.specs.declared.grid.PinAt.{PinAt}
use Rattle.sat_clause.specs.Literal.{Clause, IsWithin}
use Rattle.cell_clauses.specs.Adding.{Extends}
use Rattle.cell_clauses.specs.Clauses.{is_reached, uses_some}
use Rattle.cell_clauses.specs.Held.{frame_in}
use Rattle.cell_clauses.proofs.NearLemmas.{leaves-made}
use Rattle.cell_clauses.proofs.WithinLemmas.{uses-within}
use Rattle.cell_clauses.proofs.frame.PlacedWindow.add_leave.Goals as goal

-- the clause that was made
made : (c : goal.After-as_slice-2) → c.as_slice-2.result.now
    ≡ uses_some (frame_in c.args.self.now) c.args.place
    (is_reached (frame_in c.args.self.now) c.args.net.driver)
made c =
    c.as_slice-2.ensures.value ∙ c.in_ok-lits.ensures
    ∙ ap (λ (pins : List PinAt). uses_some (frame_in c.args.self.now) c.args.place
    (λ cell. list_any (λ pin. touches c.args.self.now.arch.now c.args.self.now.grid pin cell) pins))
    (c.as_slice.ensures.value ∙ c.in_ok-pins.ensures.pins)

pub extend-requires : goal.extend-requires
extend-requires c =
    subst (All (IsWithin c.args.formula.now.cnf.vars)) (sym (made c))
    (uses-within (frame_in c.args.self.now) c.args.formula.now.cnf.vars c.requires.vars c.args.place
    (is_reached (frame_in c.args.self.now) c.args.net.driver) (omega arith))

pub returns : goal.returns
returns c =
    subst (λ (row : List Clause).
    OnOk c.extend.result (Extends c.args.formula.now row c.extend.new.formula))
    (leaves-made (frame_in c.args.self.now) c.args.place c.args.net c.as_slice.result.now
    c.in_ok-lits.lits.items c.as_slice-2.result.now
    (sym c.is_inside.ensures ∙ c.if-not-is_inside.false) c.as_slice-2.ensures.value
    c.in_ok-lits.ensures (c.as_slice.ensures.value ∙ c.in_ok-pins.ensures.pins)) c.extend.ensures

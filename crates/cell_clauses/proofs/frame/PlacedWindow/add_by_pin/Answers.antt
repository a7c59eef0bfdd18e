use Rattle.std.proofs.Common.{All, ◌∷◌, ap, subst, sym, ◌∙◌, arith}
use Rattle.fpga_types.specs.Touching.{touches}
use Rattle.sat_clause.specs.Literal.{IsWithin}
use Rattle.sat_clause.specs.declared.literal.Lit.{Lit}
use Rattle.cell_clauses.specs.Clauses.{uses_some}
use Rattle.cell_clauses.specs.Held.{frame_in}
use Rattle.cell_clauses.specs.Places.{entry_place, lacks, pin_number}
use Rattle.cell_clauses.proofs.WithinLemmas.{lacks-entry-within}
use Rattle.cell_clauses.proofs.frame.PlacedWindow.add_by_pin.Goals as goal

pub extend-requires : goal.extend-requires
extend-requires c =
    let f = frame_in c.args.self.now in
    let lit = c.lacks_lit-lacks.ensures ∙ ap lacks c.entry_place.ensures.value
    ∙ ap (λ n. lacks (entry_place f c.args.place n)) c.pin_number.ensures in
    subst (All (IsWithin c.args.formula.now.cnf.vars))
    (sym (c.as_slice.ensures.value ∙ c.in_ok-lits.ensures
    ∙ ap (λ (l : Lit). l ∷ uses_some f c.args.arrival.net (touches f.arch f.grid c.args.pin)) lit))
    (lacks-entry-within f c.args.formula.now.cnf.vars c.requires.vars c.args.place
    (pin_number c.args.pin) c.args.arrival.net (touches f.arch f.grid c.args.pin) c.requires.place
    c.requires.low (omega arith))

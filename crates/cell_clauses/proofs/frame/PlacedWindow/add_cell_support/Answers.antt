use Rattle.std.proofs.Common.{All, ℕ, ◌+◌, ◌*◌, ◌∷◌, ap, subst, sym, ◌∙◌, arith}
use Rattle.sat_clause.specs.Literal.{IsWithin}
use Rattle.sat_clause.specs.declared.literal.Lit.{Lit}
use Rattle.cell_clauses.specs.Clauses.{meets, uses_some}
use Rattle.cell_clauses.specs.Held.{frame_in}
use Rattle.cell_clauses.specs.Places.{lacks}
use Rattle.cell_clauses.proofs.WithinLemmas.{lacks-use-within}
use Rattle.cell_clauses.proofs.frame.PlacedWindow.add_cell_support.Goals as goal

pub extend-requires : goal.extend-requires
extend-requires c =
    let f = frame_in c.args.self.now in
    let place = c.use_place.ensures.value
    ∙ ap (λ (n : ℕ). c.args.place * n + c.args.number) c.args.self.now.cells_are in
    let lit = c.lacks_lit-lacks.ensures ∙ ap lacks place in
    subst (All (IsWithin c.args.formula.now.cnf.vars))
    (sym (c.as_slice.ensures.value ∙ c.in_ok-lits.ensures
    ∙ ap (λ (l : Lit). l ∷ uses_some f c.args.place (meets f c.args.cell)) lit))
    (lacks-use-within f c.args.formula.now.cnf.vars c.requires.vars c.args.place c.args.number
    (meets f c.args.cell) (omega arith) (omega arith))

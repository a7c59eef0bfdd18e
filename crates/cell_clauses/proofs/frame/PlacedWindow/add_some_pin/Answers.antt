use Rattle.std.proofs.Common.{All, List, ◌∙◌, ◌++◌, ap, subst, sym}
use Rattle.std.specs.Prelude.{map}
use Rattle.sat_clause.specs.Literal.{IsWithin}
use Rattle.sat_clause.specs.declared.literal.Lit.{Lit}
use Rattle.cell_clauses.specs.Held.{frame_in}
use Rattle.cell_clauses.specs.Places.{entry_place, has, pin_number}
use Rattle.cell_clauses.proofs.WithinLemmas.{entries-within}
use Rattle.cell_clauses.proofs.frame.PlacedWindow.add_some_pin.Goals as goal

pub extend-requires : goal.extend-requires
extend-requires c =
    subst (All (IsWithin c.args.formula.now.cnf.vars))
    (sym (c.as_slice.ensures.value ∙ c.in_ok-add_entries.ensures
    ∙ ap (λ (t : List Lit). t
    ++ map (λ pin. has (entry_place (frame_in c.args.self.now) c.args.place (pin_number pin)))
    c.args.pins.now) c.new-lits.ensures.items))
    (entries-within (frame_in c.args.self.now) c.args.formula.now.cnf.vars c.requires.vars
    c.args.place c.args.pins.now c.requires.place c.requires.low)

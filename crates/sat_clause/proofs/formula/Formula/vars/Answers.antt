use Rattle.std.proofs.lemmas.Option.{slice_get-get_or}
use Rattle.sat_clause.specs.Literal.{IsWithin}
use Rattle.sat_clause.specs.Parts.{parts_from}
use Rattle.sat_clause.proofs.PartsLaws.{parts-all}
use Rattle.sat_clause.proofs.formula.Formula.vars.Goals as goal

pub returns-clause-within : goal.returns-clause-within
returns-clause-within c =
    let p = c.self.inside in
    rw (← c.self.view_is)
    (λ k d inside. parts-all (IsWithin p.vars) 0 p.lits.items p.ends.items c.self.invariant.within k
    _ (slice_get-get_or (parts_from 0 p.lits.items p.ends.items) k d inside))

use Rattle.std.proofs.Common.{◌<◌, length, None, Some, ap, sym, ◌∙◌}
use Rattle.std.specs.Prelude.{option_map}
use Rattle.std.proofs.lemmas.List.{get_or_default}
use Rattle.sat_check.specs.DerivedStore.{lits_of}
use Rattle.sat_check.proofs.derived_clauses.DerivedClauses.get.Goals as goal

pub returns-in_default : goal.returns-in_default
returns-in_default c =
    let p = c.self.inside in
    let none = rw (c.len.ensures, p.table.ok.0) at c.in_default.ensures.value in
    rw (← c.self.view_is, ← none)
    (ap Some c.as_slice.ensures.value ∙ ap (option_map lits_of) c.in-Some-get.ensures.value)

pub returns : goal.returns
returns c =
    let p = c.self.inside in
    let some = rw (c.len.ensures, p.table.ok.0) at c.in-Some.ensures.value in
    let within : c.in-Some.at < length p.table.items =
    rw (← p.table.ok.0, ← c.len.ensures) c.in-Some.ensures.within in
    rw (← c.self.view_is, ← some)
    (ap Some c.as_slice-2.ensures.value ∙ ap (option_map lits_of) (sym c.in-Some-index.is
    ∙ c.index.ensures ∙ get_or_default p.table.items c.in-Some.at c.index.result.now None within))

use Rattle.std.proofs.Common.{◌<◌, length, None, ap, sym, ◌∙◌}
use Rattle.std.specs.Prelude.{is_some}
use Rattle.std.proofs.lemmas.List.{get_or_default}
use Rattle.sat_check.proofs.DerivedLaws.{changes_cell, changes_others, is_some-lits}
use Rattle.sat_check.proofs.derived_clauses.DerivedClauses.take_out.Goals as goal

pub returns-in_default-clause-found : goal.returns-in_default-clause-found
returns-in_default-clause-found c =
    let p = c.self.inside in
    let none = rw (c.len.ensures, p.table.ok.0) at c.in_default.ensures.value in
    rw (← c.self.view_is, ← none) (c.is_some.ensures ∙ ap is_some c.swap_remove.ensures.value
    ∙ is_some-lits _)

pub returns-in_default-clause-clauses : goal.returns-in_default-clause-clauses
returns-in_default-clause-clauses c =
    let p = c.self.inside in
    let none = rw (c.len.ensures, p.table.ok.0) at c.in_default.ensures.value in
    rw (← c.self.view_is)
    (changes_others p.first p.table.items p.others.entries c.args.id c.swap_remove.new.self.entries
    None (sym none) c.swap_remove.ensures.updates.0)

pub returns-clause-found : goal.returns-clause-found
returns-clause-found c =
    let p = c.self.inside in
    let some = rw (c.len.ensures, p.table.ok.0) at c.in-Some.ensures.value in
    let within : c.in-Some.at < length p.table.items =
    rw (← p.table.ok.0, ← c.len.ensures) c.in-Some.ensures.within in
    let cell = c.index.ensures ∙ get_or_default p.table.items c.in-Some.at c.index.result.now None
    within in
    rw (← c.self.view_is, ← some) (c.is_some-found.ensures ∙ ap is_some cell ∙ is_some-lits _)

pub returns-clause-clauses : goal.returns-clause-clauses
returns-clause-clauses c =
    let p = c.self.inside in
    let some = rw (c.len.ensures, p.table.ok.0) at c.in-Some.ensures.value in
    let within : c.in-Some.at < length p.table.items =
    rw (← p.table.ok.0, ← c.len.ensures) c.in-Some.ensures.within in
    rw (← c.self.view_is)
    (changes_cell p.first p.table.items p.others.entries c.args.id c.in-Some.at None
    (sym some) within)

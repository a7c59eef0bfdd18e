use Rattle.std.proofs.Common.{◌<◌, length, Some, sym}
use Rattle.sat_check.proofs.DerivedLaws.{changes_cell, changes_others}
use Rattle.sat_check.proofs.derived_clauses.DerivedClauses.place.Goals as goal

pub returns-in_default-clause-ok : goal.returns-in_default-clause-ok
returns-in_default-clause-ok c =
    let p = c.self.inside in
    let none = rw (c.len.ensures, p.table.ok.0) at c.in_default.ensures.value in
    rw (← c.self.view_is)
    (changes_others p.first p.table.items p.others.entries c.args.id c.insert.new.self.entries
    (Some c.args.clause) (sym none) c.in_ok-insert.ensures.updates.0)

pub returns-clause-ok : goal.returns-clause-ok
returns-clause-ok c =
    let p = c.self.inside in
    let some = rw (c.len.ensures, p.table.ok.0) at c.in-Some.ensures.value in
    let within : c.in-Some.at < length p.table.items =
    rw (← p.table.ok.0, ← c.len.ensures) c.in-Some.ensures.within in
    rw (← c.self.view_is)
    (changes_cell p.first p.table.items p.others.entries c.args.id c.in-Some.at (Some c.args.clause)
    (sym some) within)

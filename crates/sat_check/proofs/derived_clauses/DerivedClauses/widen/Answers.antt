use Rattle.sat_check.proofs.DerivedLaws.{same_wider}
use Rattle.sat_check.proofs.derived_clauses.DerivedClauses.widen.Goals as goal

pub returns-clause-kept : goal.returns-clause-kept
returns-clause-kept c =
    let p = c.self.inside in
    let value = rw (c.len.ensures, p.table.ok.0) at c.swap_remove-clause.ensures.value in
    let updates = rw (c.len.ensures, p.table.ok.0) at c.swap_remove-clause.ensures.updates.0 in
    rw (← c.self.view_is, c.push_reserved.ensures.items, c.in_ok-reserve.ensures.items)
    (same_wider p.first p.table.items p.others.entries c.swap_remove-clause.new.self.entries
    c.swap_remove-clause.result value updates)

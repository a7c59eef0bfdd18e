use Rattle.std.proofs.Common.{◌+◌, length, sym}
use Rattle.sat_check.proofs.PlaceLaws.{each_stands, once_stands}
use Rattle.sat_check.proofs.live_clauses.LiveClauses.scattered.Goals as goal

pub returns-clause-each : goal.returns-clause-each
returns-clause-each c = λ id is.
    let p = c.self.inside in
    let stands = each_stands p.inputs.marks p.inputs.clauses p.inputs.vars p.derived.table
    p.derived.others id in
    rw (c.outside.ensures.value, ← c.self.view_is) (simp (sym c.self.invariant.next) at stands
    (rw (← c.self.view_is) at is))

pub returns-clause-once : goal.returns-clause-once
returns-clause-once c = λ i j id is too.
    let p = c.self.inside in
    once_stands (length p.inputs.marks + length p.derived.table) p.derived.others
    c.outside.ensures.once i j id (rw (← c.self.view_is) at is) (rw (← c.self.view_is) at too)

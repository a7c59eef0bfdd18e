use Rattle.std.proofs.Common.{ap}
use Rattle.std.specs.Prelude.{is_some}
use Rattle.sat_rat.proofs.full_rule.take_within.Goals as goal

pub returns-then-step-clause-live : goal.returns-then-step-clause-live
returns-then-step-clause-live c = λ good clauses tracks.
    rw c.if-step.true (c.erase.ensures.tracks (ap is_some good) clauses tracks)

pub returns-in_default-put-clause-err : goal.returns-in_default-put-clause-err
returns-in_default-put-clause-err c = λ clauses tracks.
    c.in_default-put.ensures.err clauses (c.check_clause.ensures.tracks clauses tracks)

pub returns-clause-live : goal.returns-clause-live
returns-clause-live c = λ good clauses tracks.
    rw c.if-step.false (c.in-Ok-put.ensures.ok clauses (c.check_clause.ensures.tracks clauses
    tracks))

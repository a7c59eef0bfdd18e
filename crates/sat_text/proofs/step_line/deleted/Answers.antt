use Rattle.std.proofs.Common.{sym, ◌∙◌}
use Rattle.sat_text.proofs.LratLemmas.{deleted_ids-closed, deleted_ids-open, ends_with_zero-last}
use Rattle.sat_text.proofs.step_line.deleted.Goals as goal

pub returns-then-is_zero-clause-ids : goal.returns-then-is_zero-clause-ids
returns-then-is_zero-clause-ids c =
    rw c.in-Some.ensures.cases.0 (sym
    (deleted_ids-closed c.in-Some.before.now c.in-Some.last.now
    (sym c.is_zero.ensures ∙ c.if-is_zero.true)))

pub returns-then-is_zero-clause-closed : goal.returns-then-is_zero-clause-closed
returns-then-is_zero-clause-closed c =
    rw c.in-Some.ensures.cases.0 (sym
    (ends_with_zero-last c.in-Some.before.now c.in-Some.last.now ∙ sym c.is_zero.ensures
    ∙ c.if-is_zero.true))

pub returns-clause-ids : goal.returns-clause-ids
returns-clause-ids c =
    rw c.in-Some.ensures.cases.0 (sym
    (deleted_ids-open c.in-Some.before.now c.in-Some.last.now
    (sym c.is_zero.ensures ∙ c.if-is_zero.false)))

pub returns-clause-closed : goal.returns-clause-closed
returns-clause-closed c =
    rw c.in-Some.ensures.cases.0 (sym
    (ends_with_zero-last c.in-Some.before.now c.in-Some.last.now ∙ sym c.is_zero.ensures
    ∙ c.if-is_zero.false))

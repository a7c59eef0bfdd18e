use Rattle.std.proofs.Common.{sym}
use Rattle.sat_text.proofs.LratLemmas.{added_by-behind}
use Rattle.sat_text.proofs.step_line.clause_and_hints.Goals as goal

pub returns-then-not-is_empty-clause-step : goal.returns-then-not-is_empty-clause-step
returns-then-not-is_empty-clause-step c id =
    rw (c.in-Some.ensures.cut, c.in-Some-cut_at_zero.ensures.cut)
    (added_by-behind id c.in-Some.lits.now c.in-Some-cut_at_zero.hints.now
    c.in-Some-cut_at_zero.end.now (sym c.if-not-is_empty.ensures))

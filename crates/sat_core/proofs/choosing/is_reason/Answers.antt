use Rattle.std.proofs.Common.{sym, ◌∙◌, arith}
use Rattle.sat_core.proofs.DeletableLaws.{is_found, none_in}
use Rattle.sat_core.proofs.choosing.is_reason.Goals as goal

pub returns-then-is_reason_for : goal.returns-then-is_reason_for
returns-then-is_reason_for c =
    sym (is_found c.args.watches.now.trail _ c.args.c
    (sym c.is_reason_for.ensures ∙ c.if-is_reason_for.true))

pub returns : goal.returns
returns c =
    sym (none_in c.args.watches.now c.args.c c.lits-l-items.result.now c.lits-l-items.ensures.value
    c.requires.levels c.requires.once
    (λ k d lt. c.loop-l.invariant k d (omega (arith, lt, c.loop-l-test.false))))

use Rattle.std.proofs.Common.{sym, ◌∙◌, arith}
use Rattle.sat_text.proofs.LratLemmas.{all_before, split_here, split_nowhere}
use Rattle.sat_text.proofs.step_line.cut_at_zero.Goals as goal

pub returns-then-is_zero-clause-cut : goal.returns-then-is_zero-clause-cut
returns-then-is_zero-clause-cut c =
    rw (c.split_at.ensures.front, c.split_at-then-is_zero.ensures.back)
    (split_here c.args.numbers.now c.loop-i.i c.loop-i-test.true
    (sym c.is_zero.ensures ∙ c.if-is_zero.true) c.loop-i.invariant)

pub returns-then-is_zero-clause-before : goal.returns-then-is_zero-clause-before
returns-then-is_zero-clause-before c =
    rw c.split_at.ensures.front (all_before c.args.numbers.now c.loop-i.i c.loop-i.invariant)

pub returns-clause-whole : goal.returns-clause-whole
returns-clause-whole c =
    split_nowhere c.args.numbers.now (λ k below. c.loop-i.invariant k (omega arith))

use Rattle.std.proofs.Common.{sym, arith}
use Rattle.fpga_text.proofs.JoinedLemmas.{trimmed-at}
use Rattle.fpga_text.proofs.joined.trimmed.Goals as goal

-- behind the last byte that is no blank stand blanks
pub returns-then-not-is_blank : goal.returns-then-not-is_blank
returns-then-not-is_blank c =
    trimmed-at c.args.text.now c.loop-end.end c.loop-end.invariant.within
    c.loop-end.invariant.blanks
    (λ some. sym c.if-not-is_blank.ensures)

-- all bytes are blanks
pub returns : goal.returns
returns c =
    trimmed-at c.args.text.now 0 (omega arith)
    (λ k from within. c.loop-end.invariant.blanks k (omega (arith, c.loop-end-test.false)) within)
    (λ some. absurd (omega (arith, some)))

-- no line so far has the number
use Rattle.std.proofs.Common.{◌≡◌, length}
use Rattle.std.specs.Prelude.{◌==◌, find}
use Rattle.fpga_text.specs.Words.{TextLine}
use Rattle.fault_names.proofs.line_of.line_with.Given as goal

abbrev pub invariant-loop-line : goal.invariant-loop-line
invariant-loop-line l = find (λ (line : TextLine). line.number == l.number) l.lines.ahead
    ≡ find (λ (line : TextLine). line.number == l.number) l.initial.lines.ahead

abbrev pub decreases-loop-line : goal.decreases-loop-line
decreases-loop-line l = length l.lines.ahead

-- no line so far begins with the word
use Rattle.std.proofs.Common.{◌≡◌, length}
use Rattle.std.specs.List.{list_any}
use Rattle.fpga_text.specs.Said.{begins}
use Rattle.fpga_text.specs.Words.{TextLine}
use Rattle.fault_names.proofs.line_of.has_line.Given as goal

abbrev pub invariant-loop-line : goal.invariant-loop-line
invariant-loop-line l = list_any (λ (line : TextLine). begins l.word line.words) l.lines.ahead
    ≡ list_any (λ (line : TextLine). begins l.word line.words) l.initial.lines.ahead

abbrev pub decreases-loop-line : goal.decreases-loop-line
decreases-loop-line l = length l.lines.ahead

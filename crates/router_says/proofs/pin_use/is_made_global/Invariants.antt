-- no line so far makes the net global
use Rattle.std.proofs.Common.{◌≡◌, length}
use Rattle.std.specs.List.{list_any}
use Rattle.fpga_text.specs.Words.{TextLine}
use Rattle.router_says.specs.AtFault.{makes_global}
use Rattle.router_says.proofs.pin_use.is_made_global.Given as goal

abbrev pub invariant-loop-line : goal.invariant-loop-line
invariant-loop-line l = list_any (λ (line : TextLine). makes_global l.name line.words) l.lines.ahead
    ≡ list_any (λ (line : TextLine). makes_global l.name line.words) l.initial.lines.ahead

abbrev pub decreases-loop-line : goal.decreases-loop-line
decreases-loop-line l = length l.lines.ahead

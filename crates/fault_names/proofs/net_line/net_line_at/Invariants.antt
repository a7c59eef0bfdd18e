-- what was found, and the lines ahead, come to what all lines do
use Rattle.std.proofs.Common.{◌≡◌, length}
use Rattle.std.specs.Prelude.{fold}
use Rattle.fault_names.specs.LinesBy.{last_net}
use Rattle.fault_names.proofs.net_line.net_line_at.Given as goal

abbrev pub invariant-loop-line : goal.invariant-loop-line
invariant-loop-line l = fold (last_net l.number) l.found l.lines.ahead
    ≡ fold (last_net l.number) 0 l.initial.lines.ahead

abbrev pub decreases-loop-line : goal.decreases-loop-line
decreases-loop-line l = length l.lines.ahead

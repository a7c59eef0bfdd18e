-- only comments were taken, so the told lines ahead are the same
use Rattle.std.proofs.Common.{◌≡◌, length}
use Rattle.sat_text.specs.ToldLines.{told}
use Rattle.sat_text.proofs.told.next_told.Given as goal

abbrev pub invariant-loop-line : goal.invariant-loop-line
invariant-loop-line l = record {
  ahead : told l.lines.ahead ≡ told l.initial.lines.ahead;
  total : l.lines.total ≡ l.initial.lines.total;
}

abbrev pub decreases-loop-line : goal.decreases-loop-line
decreases-loop-line l = length l.lines.ahead

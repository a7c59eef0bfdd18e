-- only lines without words were taken, so the lines ahead are the same
use Rattle.std.proofs.Common.{◌≡◌, ◌-◌}
use Rattle.fpga_text.proofs.lines.Lines.next_line.Given as goal

abbrev pub invariant-loop-line : goal.invariant-loop-line
invariant-loop-line l = record {
  ahead : l.self.ahead ≡ l.initial.self.ahead;
  total : l.self.total ≡ l.initial.self.total;
}

abbrev pub decreases-loop-line : goal.decreases-loop-line
decreases-loop-line l = l.self.total - l.self.taken

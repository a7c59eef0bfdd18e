-- the lines that were taken have no fault, and what they and those ahead say is what all say
use Rattle.std.proofs.Common.{◌≡◌, length}
use Rattle.fpga_text.proofs.FaultLemmas.{IsPast}
use Rattle.fpga_arch.specs.Lines.{arch_with, faults_ahead}
use Rattle.fpga_arch.proofs.read.read_lines.Given as goal

abbrev pub invariant-loop-line : goal.invariant-loop-line
invariant-loop-line l = record {
  past : IsPast (faults_ahead l.initial.draft l.initial.lines) (faults_ahead l.draft l.lines);
  arch : arch_with l.draft.arch l.lines.ahead
      ≡ arch_with l.initial.draft.arch l.initial.lines.ahead;
  total : l.lines.total ≡ l.initial.lines.total;
  whole : length l.draft.flags ≡ 12;
}

abbrev pub decreases-loop-line : goal.decreases-loop-line
decreases-loop-line l = length l.lines.ahead

-- the lines that were taken have no fault, and what they and those ahead lead to is what all lead
-- to
use Rattle.std.proofs.Common.{◌≡◌, length}
use Rattle.fpga_text.proofs.FaultLemmas.{IsPast}
use Rattle.fpga_route.specs.Drafts.{nets_with}
use Rattle.fpga_route.specs.Nets.{faults_ahead}
use Rattle.fpga_route.proofs.read.read_nets.Given as goal

abbrev pub invariant-loop-line : goal.invariant-loop-line
invariant-loop-line l = record {
  past : IsPast (faults_ahead l.initial.draft l.initial.lines) (faults_ahead l.draft l.lines);
  nets : nets_with l.draft l.lines.ahead ≡ nets_with l.initial.draft l.initial.lines.ahead;
  total : l.lines.total ≡ l.initial.lines.total;
}

abbrev pub decreases-loop-line : goal.decreases-loop-line
decreases-loop-line l = length l.lines.ahead

-- the lines that were taken have no fault, and they and those ahead say what all say
use Rattle.std.proofs.Common.{◌≡◌, length}
use Rattle.std.specs.Prelude.{fold}
use Rattle.fpga_text.proofs.FaultLemmas.{IsPast}
use Rattle.fpga_net.specs.Codes.{behind, forms_of}
use Rattle.fpga_net.specs.Drafts.{IsKept, faults_ahead}
use Rattle.fpga_net.proofs.read.read_lines.Given as goal

abbrev pub invariant-loop-line : goal.invariant-loop-line
invariant-loop-line l = record {
  past : IsPast (faults_ahead l.initial.draft.context l.initial.lines)
      (faults_ahead l.draft.context l.lines);
  context : fold behind l.draft.context (forms_of l.lines.ahead)
      ≡ fold behind l.initial.draft.context (forms_of l.initial.lines.ahead);
  kept : IsKept l.draft;
  total : l.lines.total ≡ l.initial.lines.total;
}

abbrev pub decreases-loop-line : goal.decreases-loop-line
decreases-loop-line l = length l.lines.ahead

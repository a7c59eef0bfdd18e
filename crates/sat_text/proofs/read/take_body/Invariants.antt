-- no line so far has a fault, and its numbers were taken
use Rattle.std.proofs.Common.{◌≡◌, length}
use Rattle.fpga_text.proofs.FaultLemmas.{IsPast}
use Rattle.sat_text.specs.Bodies.{body_faults}
use Rattle.sat_text.specs.Drafts.{head_in}
use Rattle.sat_text.specs.ToldLines.{told}
use Rattle.sat_text.proofs.CnfLemmas.{IsReadTo}
use Rattle.sat_text.proofs.read.take_body.Given as goal

abbrev pub invariant-loop-line : goal.invariant-loop-line
invariant-loop-line l = record {
  past : IsPast (body_faults (head_in l.initial.draft) (told l.initial.lines.ahead))
      (body_faults (head_in l.initial.draft) (told l.lines.ahead));
  read : IsReadTo l.initial.draft l.draft (told l.initial.lines.ahead) (told l.lines.ahead);
  total : l.lines.total ≡ l.initial.lines.total;
}

abbrev pub decreases-loop-line : goal.decreases-loop-line
decreases-loop-line l = length (told l.lines.ahead)

-- no line so far has a fault, and its numbers were taken
use Rattle.std.proofs.Common.{◌≡◌, length}
use Rattle.model_text.specs.Assignments.{vars_in}
use Rattle.model_text.proofs.ReadLemmas.{IsReadTo}
use Rattle.model_text.proofs.read.take_lines.Given as goal

abbrev pub invariant-loop-line : goal.invariant-loop-line
invariant-loop-line l = record {
  read : IsReadTo (vars_in l.initial.draft.assignment) l.initial.lines.ahead l.lines.ahead l.draft;
  total : l.lines.total ≡ l.initial.lines.total;
}

abbrev pub decreases-loop-line : goal.decreases-loop-line
decreases-loop-line l = length l.lines.ahead

-- no line so far has a fault, and the steps so far and those that are left are all steps
use Rattle.std.proofs.Common.{◌≡◌, ◌++◌, length}
use Rattle.fpga_text.specs.FirstFault.{first_fault}
use Rattle.sat_text.proofs.read.read_steps.Given as goal

abbrev pub invariant-loop-more : goal.invariant-loop-more
invariant-loop-more l = record {
  past : first_fault l.initial.lines.faults ≡ first_fault l.lines.faults;
  steps : l.log.steps ++ l.lines.steps ≡ l.initial.lines.steps;
}

abbrev pub decreases-loop-more : goal.decreases-loop-more
decreases-loop-more l = length l.lines.steps

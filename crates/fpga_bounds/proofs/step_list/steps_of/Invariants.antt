use Rattle.std.proofs.Common.{◌≡◌, take}
use Rattle.fpga_bounds.specs.StepList.{steps_in}
use Rattle.fpga_bounds.proofs.step_list.steps_of.Given as goal

abbrev pub invariant-loop-n : goal.invariant-loop-n
invariant-loop-n l = l.found.items ≡ steps_in l.table (take l.n l.nets)

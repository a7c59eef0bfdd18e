use Rattle.std.proofs.Common.{◌≡◌, take}
use Rattle.fpga_bounds.specs.PinList.{pin_steps_in}
use Rattle.fpga_bounds.proofs.pin_list.pin_steps_of.Given as goal

abbrev pub invariant-loop-n : goal.invariant-loop-n
invariant-loop-n l = l.found.items ≡ pin_steps_in l.table (take l.n l.nets)

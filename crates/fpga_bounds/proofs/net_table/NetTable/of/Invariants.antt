-- the nets so far are numbered
use Rattle.std.proofs.Common.{take}
use Rattle.fpga_bounds.specs.NetTable.{AreNumbered}
use Rattle.fpga_bounds.proofs.net_table.NetTable.of.Given as goal

abbrev pub invariant-loop-i : goal.invariant-loop-i
invariant-loop-i l = AreNumbered (take l.i l.nets) l.numbers

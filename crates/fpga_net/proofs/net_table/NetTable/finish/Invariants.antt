-- the nets so far were finished
use Rattle.std.proofs.Common.{◌≡◌}
use Rattle.fpga_net.specs.Entries.{nets_in}
use Rattle.fpga_net.proofs.net_table.NetTable.finish.Given as goal

abbrev pub invariant-loop-net : goal.invariant-loop-net
invariant-loop-net l = l.finished.items ≡ nets_in l.yielded

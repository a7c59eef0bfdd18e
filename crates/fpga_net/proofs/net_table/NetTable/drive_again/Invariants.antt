-- no pin so far does
use Rattle.std.proofs.Common.{◌≡◌, drop, map}
use Rattle.fpga_text.specs.Said.{has_text}
use Rattle.fpga_net.specs.Entries.{drive_again}
use Rattle.fpga_net.specs.NetUses.{use_said}
use Rattle.fpga_net.proofs.net_table.NetTable.drive_again.Given as goal

abbrev pub invariant-loop-used : goal.invariant-loop-used
invariant-loop-used l =
    drive_again (has_text l.globals) l.self (map use_said (drop l.used-index l.uses))
    ≡ drive_again (has_text l.globals) l.self (map use_said l.uses)

-- the pins so far were added
use Rattle.std.proofs.Common.{map, take}
use Rattle.fpga_text.specs.Said.{has_text}
use Rattle.fpga_net.specs.Entries.{TakesUses}
use Rattle.fpga_net.specs.NetUses.{use_said}
use Rattle.fpga_net.proofs.net_table.NetTable.add_all.Given as goal

abbrev pub invariant-loop-used : goal.invariant-loop-used
invariant-loop-used l = TakesUses (has_text l.globals) l.initial.self l.self
    (map use_said (take l.used-index l.uses))

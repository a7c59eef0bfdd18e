-- no pin so far is one
use Rattle.std.proofs.Common.{◌≡◌, drop, map}
use Rattle.fpga_text.specs.Said.{has_text}
use Rattle.fpga_net.specs.Codes.{takes_ordinary}
use Rattle.fpga_net.specs.NetUses.{use_said}
use Rattle.fpga_net.proofs.net_use.takes_ordinary.Given as goal

abbrev pub invariant-loop-used : goal.invariant-loop-used
invariant-loop-used l =
    takes_ordinary (has_text l.globals) (map use_said (drop l.used-index l.uses))
    ≡ takes_ordinary (has_text l.globals) (map use_said l.uses)

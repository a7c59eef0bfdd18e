-- no pin so far is one of a pair
use Rattle.std.proofs.Common.{◌≡◌, drop, map}
use Rattle.fpga_text.specs.Said.{has_text}
use Rattle.fpga_net.specs.Codes.{has_pair, share_class}
use Rattle.fpga_net.specs.NetUses.{use_said}
use Rattle.fpga_net.proofs.net_use.shares_class.Given as goal

abbrev pub invariant-loop-i : goal.invariant-loop-i
invariant-loop-i l = has_pair (share_class (has_text l.globals)) (map use_said (drop l.i l.uses))
    ≡ has_pair (share_class (has_text l.globals)) (map use_said l.uses)

-- no pin so far is one
use Rattle.std.proofs.Common.{◌≡◌, drop, map}
use Rattle.std.specs.List.{list_any}
use Rattle.fpga_text.specs.Said.{has_text}
use Rattle.fpga_net.specs.Codes.{share_class}
use Rattle.fpga_net.specs.NetUses.{use_said}
use Rattle.fpga_net.proofs.net_use.shares_with.Given as goal

abbrev pub invariant-loop-other : goal.invariant-loop-other
invariant-loop-other l = list_any (share_class (has_text l.globals) (use_said l.first))
    (map use_said (drop l.other-index l.others))
    ≡ list_any (share_class (has_text l.globals) (use_said l.first)) (map use_said l.others)

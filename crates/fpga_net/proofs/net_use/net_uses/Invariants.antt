-- the nets that were found and those of the words ahead are those of all words
use Rattle.std.proofs.Common.{◌≡◌, ◌++◌, map, drop}
use Rattle.fpga_net.specs.NetUses.{use_said}
use Rattle.fpga_net.specs.Uses.{uses_from, uses_on}
use Rattle.fpga_net.proofs.net_use.net_uses.Given as goal

abbrev pub invariant-loop-i : goal.invariant-loop-i
invariant-loop-i l = map use_said l.uses.items
    ++ uses_from l.block l.i (drop l.i l.pins) (drop l.i (map (λ word. word.now) l.words))
    ≡ uses_on l.block l.pins (map (λ word. word.now) l.words)

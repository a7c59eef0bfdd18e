-- the words so far were looked up
use Rattle.std.proofs.Common.{◌≡◌, map, take}
use Rattle.fpga_net.specs.Value.{net_on}
use Rattle.fpga_net.proofs.listed.net_numbers.Given as goal

abbrev pub invariant-loop-word : goal.invariant-loop-word
invariant-loop-word l =
    l.pins.items ≡ map (net_on l.names) (map (λ word. word.now) (take l.word-index l.words))

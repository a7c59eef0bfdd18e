-- no word so far does
use Rattle.std.proofs.Common.{◌≡◌, drop, map}
use Rattle.std.specs.List.{list_any}
use Rattle.fpga_net.specs.Uses.{is_open}
use Rattle.fpga_net.proofs.listed.has_open.Given as goal

abbrev pub invariant-loop-word : goal.invariant-loop-word
invariant-loop-word l = list_any is_open (map (λ word. word.now) (drop l.word-index l.words))
    ≡ list_any is_open (map (λ word. word.now) l.words)

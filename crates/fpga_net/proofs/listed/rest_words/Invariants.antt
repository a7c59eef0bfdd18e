-- the words taken so far and those that are left are the words of the line
use Rattle.std.proofs.Common.{◌≡◌, ◌≤◌, ◌-◌, ◌++◌, length, map}
use Rattle.fpga_net.proofs.listed.rest_words.Given as goal

abbrev pub invariant-loop-line : goal.invariant-loop-line
invariant-loop-line l = record {
  all : map (λ word. word.now) l.words.items ++ l.line.words ≡ l.initial.line.words;
  within : length l.words.items ≤ l.most;
}

abbrev pub decreases-loop-line : goal.decreases-loop-line
decreases-loop-line l = l.most - length l.words.items

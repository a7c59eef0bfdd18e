-- the words taken so far and those that are left are the words of the line
use Rattle.std.proofs.Common.{◌≡◌, ◌≤◌, ◌-◌, ◌++◌, length}
use Rattle.fpga_text.proofs.first_words.FirstWords.of.Given as goal

abbrev pub invariant-loop-line : goal.invariant-loop-line
invariant-loop-line l = record {
  all : l.words ++ l.line.words ≡ l.initial.line.words;
  within : length l.words ≤ 8;
}

abbrev pub decreases-loop-line : goal.decreases-loop-line
decreases-loop-line l = 8 - length l.words

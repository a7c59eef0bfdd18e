-- what was found and what is among the words ahead is what was among all of them
use Rattle.std.proofs.Common.{◌≡◌, true, length}
use Rattle.std.specs.Prelude.{List, ℕ, ◌||◌}
use Rattle.fpga_text.specs.Said.{has_text}
use Rattle.fpga_net.proofs.globals.find_words.Given as goal

abbrev pub invariant-loop-word : goal.invariant-loop-word
invariant-loop-word l = (name : List ℕ) → has_text l.sought name ≡ true
    → (has_text l.found name || has_text l.line.words name)
    ≡ (has_text l.initial.found name || has_text l.initial.line.words name)

abbrev pub decreases-loop-word : goal.decreases-loop-word
decreases-loop-word l = length l.line.words

-- the words that were added and those ahead are all words
use Rattle.std.proofs.Common.{◌≡◌, ◌++◌, length}
use Rattle.fault_names.specs.Lookups.{bytes_of}
use Rattle.fault_names.proofs.words_behind.add_rest.Given as goal

abbrev pub invariant-loop-word : goal.invariant-loop-word
invariant-loop-word l = bytes_of l.names.items ++ l.line.words
    ≡ bytes_of l.initial.names.items ++ l.initial.line.words

abbrev pub decreases-loop-word : goal.decreases-loop-word
decreases-loop-word l = length l.line.words

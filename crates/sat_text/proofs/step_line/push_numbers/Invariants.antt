-- the numbers so far were put behind the old ones
use Rattle.std.proofs.Common.{length}
use Rattle.sat_text.specs.FrontNumbers.{PushesFront}
use Rattle.sat_text.proofs.step_line.push_numbers.Given as goal

abbrev pub invariant-loop-number : goal.invariant-loop-number
invariant-loop-number l =
    PushesFront l.initial.numbers.items l.numbers.items l.initial.line.words l.line.words

abbrev pub decreases-loop-number : goal.decreases-loop-number
decreases-loop-number l = length l.line.words

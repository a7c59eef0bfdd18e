-- the numbers so far were taken from the front of the line
use Rattle.std.proofs.Common.{length}
use Rattle.model_text.specs.Drafts.{TakesValues}
use Rattle.model_text.proofs.draft.Draft.take_front.Given as goal

abbrev pub invariant-loop-number : goal.invariant-loop-number
invariant-loop-number l =
    TakesValues l.initial.self l.self l.initial.line.words l.line.words

abbrev pub decreases-loop-number : goal.decreases-loop-number
decreases-loop-number l = length l.line.words

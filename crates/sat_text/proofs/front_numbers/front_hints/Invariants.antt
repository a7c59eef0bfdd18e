-- the numbers so far are the hints
use Rattle.std.proofs.Common.{length}
use Rattle.std.specs.Prelude.{All}
use Rattle.sat_text.specs.FrontNumbers.{TakesFront}
use Rattle.sat_text.specs.ReadBack.{IsIdNumber}
use Rattle.sat_text.proofs.front_numbers.front_hints.Given as goal

abbrev pub invariant-loop-number : goal.invariant-loop-number
invariant-loop-number l = record {
  taken : TakesFront l.initial.line.words l.line.words l.hints.items;
  ids : All IsIdNumber l.hints.items;
}

abbrev pub decreases-loop-number : goal.decreases-loop-number
decreases-loop-number l = length l.line.words

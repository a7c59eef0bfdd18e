-- the numbers so far are those of the literals
use Rattle.std.proofs.Common.{length}
use Rattle.std.specs.Prelude.{All, map}
use Rattle.sat_clause.specs.Literal.{IsWithin}
use Rattle.sat_text.specs.FrontNumbers.{TakesFront}
use Rattle.sat_text.proofs.front_numbers.front_literals.Given as goal

abbrev pub invariant-loop-number : goal.invariant-loop-number
invariant-loop-number l = record {
  taken : TakesFront l.initial.line.words l.line.words (map (λ l. l.code) l.lits.items);
  within : All (IsWithin 100000000) l.lits.items;
}

abbrev pub decreases-loop-number : goal.decreases-loop-number
decreases-loop-number l = length l.line.words

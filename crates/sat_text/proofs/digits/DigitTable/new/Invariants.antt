-- the rows so far are the digits of their numbers
use Rattle.std.proofs.Common.{◌≡◌, ◌<◌, ℕ, [], get_or, length}
use Rattle.sat_text.specs.Triples.{last_three}
use Rattle.sat_text.proofs.digits.DigitTable.new.Given as goal

abbrev pub invariant-loop-n : goal.invariant-loop-n
invariant-loop-n l = record {
  many : length l.rows ≡ 1000;
  each : (k : ℕ) → k < l.n → get_or l.rows k [] ≡ last_three k;
}

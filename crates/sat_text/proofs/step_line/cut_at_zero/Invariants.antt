-- no number so far is 0
use Rattle.std.proofs.Common.{◌≡◌, ◌<◌, ℕ, pos, false}
use Rattle.std.specs.Prelude.{slice_index_or}
use Rattle.sat_text.specs.Numbers.{is_zero}
use Rattle.sat_text.proofs.step_line.cut_at_zero.Given as goal

abbrev pub invariant-loop-i : goal.invariant-loop-i
invariant-loop-i l = (k : ℕ) → k < l.i → is_zero (slice_index_or l.numbers k (pos 0)) ≡ false

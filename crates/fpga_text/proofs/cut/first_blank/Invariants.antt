-- no byte so far is a blank
use Rattle.std.proofs.Common.{◌≡◌, ℕ, ◌<◌, slice_index, false}
use Rattle.fpga_text.specs.Bytes.{is_blank}
use Rattle.fpga_text.proofs.cut.first_blank.Given as goal

abbrev pub invariant-loop-i : goal.invariant-loop-i
invariant-loop-i l = (k : ℕ) → k < l.i → is_blank (slice_index l.text k) ≡ false

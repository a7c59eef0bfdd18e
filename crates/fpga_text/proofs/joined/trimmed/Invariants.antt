-- the bytes from the end on are blanks
use Rattle.std.proofs.Common.{◌≡◌, ℕ, ◌<◌, ◌≤◌, length, slice_index, true}
use Rattle.fpga_text.specs.Bytes.{is_blank}
use Rattle.fpga_text.proofs.joined.trimmed.Given as goal

abbrev pub invariant-loop-end : goal.invariant-loop-end
invariant-loop-end l = record {
  within : l.end ≤ length l.text;
  blanks : (k : ℕ) → l.end ≤ k → k < length l.text → is_blank (slice_index l.text k) ≡ true;
}

abbrev pub decreases-loop-end : goal.decreases-loop-end
decreases-loop-end l = l.end

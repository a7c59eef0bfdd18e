use Rattle.std.proofs.Common.{◌≡◌, ◌++◌, sym, ap, false, take}
use Rattle.fpga_text.specs.Bytes.{is_empty}
use Rattle.fpga_text.proofs.NumberLemmas.{millionths-digits, some-back, some-front, split-at}
use Rattle.fpga_text.proofs.number.millionths_of.Goals as goal
use Rattle.fpga_text.proofs.number.millionths_of.Goals.{else-is_empty-via-then-is_empty+else-is_empty-2, else-is_empty-via-else-is_empty, After-with_digits-2}

-- one of the parts has a digit
some : (c : After-with_digits-2)
    → is_empty (c.part_at.result.0.now ++ c.part_at.result.1.now) ≡ false
some c = elim c.else-is_empty.branch [
  | else-is_empty-via-then-is_empty+else-is_empty-2 w ↦
      some-back c.part_at.result.0.now c.part_at.result.1.now w.if-is_empty-2.ensures
  | else-is_empty-via-else-is_empty w ↦
      some-front c.part_at.result.0.now c.part_at.result.1.now w.if-is_empty.ensures
]

pub returns : goal.returns
returns c =
    rw (
      c.with_digits-2.ensures,
      c.with_digits-number.ensures,
      c.zeros_behind.ensures,
      c.with_digits.ensures,
    )
    (millionths-digits c.args.word.now c.part_at.result.0.now c.part_at.result.1.now
    (take c.min.result c.part_at.result.1.now)
    (split-at c.args.word.now c.part_at.result.0.now c.part_at.result.1.now c.first_byte.result
    c.first_byte.ensures.place c.part_at.ensures.before c.part_at.ensures.after)
    (some (goal.at.returns c).After-with_digits-2) (sym c.if-not-are_all_digits.ensures)
    (ap (λ n. take n c.part_at.result.1.now) c.min.ensures))

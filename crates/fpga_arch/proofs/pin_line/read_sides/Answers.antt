use Rattle.std.proofs.Common.{sym, ap, ◌∙◌}
use Rattle.fpga_types.specs.ArchSound.{has_side}
use Rattle.fpga_arch.proofs.PinLemmas.{lacks-more, sided-more, sides-more}
use Rattle.fpga_arch.proofs.pin_line.read_sides.Goals as goal

-- one more side
pub loop-word-preserved : goal.loop-word-preserved
loop-word-preserved c = rw (
  c.in-Some-next_word.ensures.after,
  c.with_sides-sides.ensures,
  c.side_of-side.ensures,
)
    (record {
      sides = sides-more c.args.line.now.words c.loop-word.line.words
          c.in-Some-next_word.word.text.now c.loop-word.sides
          c.in-Some-next_word.ensures.word c.loop-word.invariant.sides;
      lacks = lacks-more c.args.line.now.words c.loop-word.line.words
          c.in-Some-next_word.word.text.now
          c.in-Some-next_word.ensures.word
          (ap has_side (sym c.side_of-side.ensures) ∙ sym c.if-not-has_side-2.ensures)
          c.loop-word.invariant.lacks;
      sided = sided-more c.loop-word.sides _ c.loop-word.invariant.sided;
    })

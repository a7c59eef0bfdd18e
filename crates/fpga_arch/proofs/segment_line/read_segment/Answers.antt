use Rattle.std.proofs.Common.{drop, slice_get}
use Rattle.fpga_arch.proofs.SegmentLemmas.{pairs-first, said-more}
use Rattle.fpga_arch.proofs.segment_line.read_segment.Goals as goal

-- one more pair
pub loop-key-preserved : goal.loop-key-preserved
loop-key-preserved c =
    rw (
      c.with_pair-said.ensures,
      c.next_word-in-Some.ensures.word,
      c.next_word-in-Some.ensures.after,
      c.in-Some.ensures.after,
    )
    (said-more c.args.line.now.words c.loop-key.said c.loop-key.line.words
    (drop 1 (drop 1 c.loop-key.line.words))
    (record { key = c.in-Some.key.text.now; value = slice_get (drop 1 c.loop-key.line.words) 0 })
    c.loop-key.invariant
    (pairs-first c.loop-key.line.words c.in-Some.key.text.now c.in-Some.ensures.word))

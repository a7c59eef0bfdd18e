-- what the pairs so far say and what those ahead say is what all say
use Rattle.std.proofs.Common.{length}
use Rattle.fpga_arch.proofs.SegmentLemmas.{IsSaid}
use Rattle.fpga_arch.proofs.segment_line.read_segment.Given as goal

abbrev pub invariant-loop-key : goal.invariant-loop-key
invariant-loop-key l = IsSaid l.fn.line.words l.said l.line.words

abbrev pub decreases-loop-key : goal.decreases-loop-key
decreases-loop-key l = length l.line.words

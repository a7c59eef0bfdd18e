-- the parts so far say no word
use Rattle.std.proofs.Common.{◌≡◌, length}
use Rattle.fpga_text.specs.Words.{words_later}
use Rattle.fpga_text.proofs.joined.next_part.Given as goal

abbrev pub invariant-loop-later : goal.invariant-loop-later
invariant-loop-later l = words_later l.later ≡ words_later l.text

abbrev pub decreases-loop-later : goal.decreases-loop-later
decreases-loop-later l = length l.later

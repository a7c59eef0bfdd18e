use Rattle.std.proofs.Common.{arith}
use Rattle.fpga_text.proofs.WordLemmas.{take-seam}
use Rattle.fpga_text.proofs.first_words.FirstWords.of.Goals as goal

pub returns : goal.returns
returns c = take-seam 8 c.loop-line.words c.loop-line.line.words c.args.line.now.words
    c.loop-line.invariant.all (omega arith) c.loop-line.invariant.within

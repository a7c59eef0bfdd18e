-- the blanks so far say no word
use Rattle.std.proofs.Common.{◌≡◌, drop}
use Rattle.fpga_text.specs.Words.{words}
use Rattle.fpga_text.proofs.cut.past_blanks.Given as goal

abbrev pub invariant-loop-i : goal.invariant-loop-i
invariant-loop-i l = words (drop l.i l.text) ≡ words l.text

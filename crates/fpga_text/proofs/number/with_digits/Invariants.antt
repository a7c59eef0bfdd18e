-- the bytes so far are digits, and this is the value with them
use Rattle.fpga_text.proofs.NumberLemmas.{IsFollowed}
use Rattle.fpga_text.proofs.number.with_digits.Given as goal

abbrev pub invariant-loop-byte : goal.invariant-loop-byte
invariant-loop-byte l = IsFollowed l.fn.number l.digits l.byte-index l.value

use Rattle.std.proofs.Common.{sym}
use Rattle.fpga_text.proofs.NumberLemmas.{followed-great, followed-more}
use Rattle.fpga_text.proofs.number.with_digits.Goals as goal

-- the value with this digit passes 64 bits
pub returns-in_default-followed_by : goal.returns-in_default-followed_by
returns-in_default-followed_by c =
    sym (followed-great c.args.number c.args.digits.now c.loop-byte.byte-index c.loop-byte.value
    c.in-Some-digit_of.digit c.loop-byte.invariant c.loop-byte-test.true
    c.in-Some-digit_of.ensures.value c.in_default-followed_by.ensures.great)

-- one more digit
pub loop-byte-preserved : goal.loop-byte-preserved
loop-byte-preserved c =
    followed-more c.args.number c.args.digits.now c.loop-byte.byte-index c.loop-byte.value
    c.in-Some-digit_of.digit c.in-Some-followed_by.next c.loop-byte.invariant c.loop-byte-test.true
    c.in-Some-digit_of.ensures.digit c.in-Some-digit_of.ensures.value
    c.in-Some-followed_by.ensures.value c.in-Some-followed_by.ensures.fits

use Rattle.std.proofs.Common.{arith}
use Rattle.sat_order.proofs.BitLaws.{all-true}
use Rattle.sat_order.proofs.bit_set.BitSet.full.Goals as goal

pub returns : goal.returns
returns c =
    let l = c.loop-number in
    all-true c.args.size l.set l.invariant.long
    (λ x in_x. l.invariant.all x (omega (arith, in_x, c.loop-number-test.false)))

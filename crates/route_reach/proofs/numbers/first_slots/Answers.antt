use Rattle.std.proofs.Common.{arith}
use Rattle.route_reach.proofs.FirstLemmas.{first-set}
use Rattle.route_reach.proofs.numbers.first_slots.Goals as goal

pub loop-s-preserved : goal.loop-s-preserved
loop-s-preserved c =
    first-set c.args.grid c.args.slots.now c.loop-s.s c.cell_number.result c.loop-s.first.items
    (omega arith) (omega arith) c.loop-s.invariant c.cell_number.ensures.number
    c.cell_number.ensures.alone c.cell_number.ensures.within

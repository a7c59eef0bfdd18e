use Rattle.std.proofs.Common.{add-one, arith, ap, suc}
use Rattle.sat_rat.specs.Counts.{ids_to, times_in}
use Rattle.sat_rat.proofs.HeldLaws.{held_split}
use Rattle.sat_rat.proofs.IdLaws.{next_is_fresh}
use Rattle.sat_rat.proofs.counted_clauses.count_placed.Goals as goal

pub loop-i-preserved : goal.loop-i-preserved
loop-i-preserved c = λ clauses finds m.
    let i = c.loop-i.i in
    let split = held_split m clauses (ids_to i) (suc i) (next_is_fresh i) in
    let before = c.loop-i.invariant clauses finds m in
    let one = rw add-one at (c.in-Ok.ensures m) in
    let same = ap (times_in m) (finds (suc i)) in
    rw add-one (omega (arith, split, before, one, same))

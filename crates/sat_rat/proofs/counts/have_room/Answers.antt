use Rattle.std.proofs.Common.{arith, get_or}
use Rattle.sat_rat.proofs.CountLaws.{times_short}
use Rattle.sat_rat.proofs.counts.have_room.Goals as goal

pub returns : goal.returns
returns c = λ yes k d below.
    let clause = c.args.clause.now in
    let few = times_short (get_or clause k d) clause in
    omega (arith, c.have_at_most.ensures yes k d below, few, c.if-clause.false)

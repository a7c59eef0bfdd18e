use Rattle.sat_clause.proofs.PartsLaws.{start_of_below, end_below}
use Rattle.sat_clause.proofs.parts.span.Goals as goal

pub returns-clause-order : goal.returns-clause-order
returns-clause-order c =
    rw c.start_of.ensures (start_of_below c.args.total 0 c.args.ends.now c.args.i c.requires.rise
    c.requires.within)

pub returns-clause-inside : goal.returns-clause-inside
returns-clause-inside c =
    end_below c.args.total 0 c.args.ends.now c.args.i c.requires.rise c.requires.within

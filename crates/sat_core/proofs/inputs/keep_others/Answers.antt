use Rattle.std.proofs.Common.{arith}
use Rattle.std.proofs.lemmas.List.{drop_all, drop_more}
use Rattle.sat_core.proofs.LeftLaws.{taken_before, taken_whole}
use Rattle.sat_core.proofs.inputs.keep_others.Goals as goal

pub keep_distinct-requires-clause-taken : goal.keep_distinct-requires-clause-taken
keep_distinct-requires-clause-taken c =
    let is = c.loop-i.invariant in
    taken_before c.args.formula.now.cnf is.0 c.loop-i.singles c.loop-i.watches _ _
    (rw (drop_more c.args.others.now c.loop-i.i-index 0 c.loop-i-test.true) at is.1)

pub returns : goal.returns
returns c =
    let is = c.loop-i.invariant in
    taken_whole c.args.formula.now.cnf is.0 c.loop-i.singles c.loop-i.watches
    (rw (drop_all c.loop-i.i-index c.args.others.now (omega arith)) at is.1)

use Rattle.std.proofs.Common.{length}
use Rattle.cell_bound.proofs.NumberedLemmas.{numbered-rise}
use Rattle.cell_bound.proofs.refuting.refuting_log.Goals as goal

pub trim-requires-clause-rising : goal.trim-requires-clause-rising
trim-requires-clause-rising g c =
    numbered-rise (length c.args.formula.now.cnf.clauses) c.solve.new.log.steps
    c.solve.ensures.logged.numbered

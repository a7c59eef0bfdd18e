use Rattle.sat_core.proofs.MostAdded.{decided}
use Rattle.sat_core.proofs.solving.solve.Goals as goal

pub returns-clause-decided : goal.returns-clause-decided
returns-clause-decided g c room =
    decided c.args.formula.now.cnf c.args.budget c.search_for_values.new.log.steps c.args.keep
    c.search_for_values.result c.search_for_values.ensures.searched room

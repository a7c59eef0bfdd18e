use Rattle.route_ways.proofs.TrimLemmas.{trimmed-reads}
use Rattle.route_ways.proofs.trimming.cut_down.Goals as goal

pub returns-clause-reads_back : goal.returns-clause-reads_back
returns-clause-reads_back c =
    trimmed-reads c.args.formula.now.cnf c.args.log.steps c.in_ok-small.small.steps
    c.requires.learned.printable c.in_ok-small.ensures

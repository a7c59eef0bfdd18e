use Rattle.std.proofs.Common.{ap}
use Rattle.std.specs.Prelude.{is_some}
use Rattle.route_count.specs.Crowded.{IsCrowded}
use Rattle.route_ways.proofs.WayLemmas.{goes-on}
use Rattle.route_ways.proofs.counting.CountingSearcher.search.Goals as goal

pub returns-in-None-clause-ended : goal.returns-in-None-clause-ended
returns-in-None-clause-ended g c =
    let rest = c.args.self.now.rest in
    let p = c.args.problem.now in
    let width = c.args.width in
    let formula = c.args.formula.now.cnf in
    let crowd = c.args.self.now.facts.now.crowd in
    goes-on (IsCrowded width p crowd) (g.R.Searcher.refutes rest p width formula)
    (g.R.Searcher.leaves_open rest p width formula) formula
    (c.in-Ok.ensures.none (ap is_some c.in-None.is)) c.search.result c.search.ensures.ended

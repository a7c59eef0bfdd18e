use Rattle.search_tests.proofs.WatchLemmas.{first_stands}
use Rattle.search_tests.proofs.random_watches.first.Goals as goal

pub returns : goal.returns
returns c = first_stands c.args.watches.now.clauses c.first.result c.first.ensures.value

use Rattle.sat_count.proofs.PairLemmas.{pairs-value}
use Rattle.sat_count.proofs.pairs.pairs_below.Goals as goal

pub returns-clause-value : goal.returns-clause-value
returns-clause-value c = pairs-value c.args.higher

use Rattle.sat_count.proofs.PairLemmas.{place-value}
use Rattle.sat_count.proofs.pairs.pair_place.Goals as goal

pub returns-clause-value : goal.returns-clause-value
returns-clause-value c =
    rw c.pairs_below-before.ensures.value
    (place-value c.args.tracks c.args.lower c.args.higher c.args.track)

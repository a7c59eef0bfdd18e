use Rattle.sat_watch.proofs.StoredLemmas.{unmarked_at}
use Rattle.sat_watch.proofs.chains.Chains.lits.Goals as goal

pub unmarked_lits-requires-clause-unmarked : goal.unmarked_lits-requires-clause-unmarked
unmarked_lits-requires-clause-unmarked c =
    unmarked_at c.self.inside.arena.clauses c.args.c c.self.invariant.chained.unmarked

use Rattle.std.proofs.Common.{subst}
use Rattle.sat_watch.specs.Watches.{IsPropagatedState, WatchState}
use Rattle.sat_watch.proofs.WatchesLemmas.{state_propagated}
use Rattle.sat_watch.proofs.watches.Watches.level.Goals as goal

pub returns-clause-propagated : goal.returns-clause-propagated
returns-clause-propagated c =
    let i = c.self.inside in
    subst (λ (s : WatchState). IsPropagatedState s) c.self.view_is
    (state_propagated i.chains i.trail i.queued i.level i.pending c.self.invariant)

use Rattle.std.proofs.Common.{subst}
use Rattle.sat_watch.specs.Trail.{AreWithin}
use Rattle.sat_watch.specs.Watches.{HasLevels, WatchState}
use Rattle.sat_watch.proofs.WatchesLemmas.{has_levels}
use Rattle.sat_watch.proofs.watches.Watches.trail.Goals as goal

pub returns-clause-within : goal.returns-clause-within
returns-clause-within c =
    let i = c.self.inside in
    subst (λ (s : WatchState). AreWithin s.vars s.trail) c.self.view_is
    (subst (λ n. AreWithin n i.trail.entries) c.self.invariant.whole.vars
    c.self.invariant.whole.trail.within)

pub returns-clause-levels : goal.returns-clause-levels
returns-clause-levels c =
    let i = c.self.inside in
    subst (λ (s : WatchState). HasLevels s.clauses s.level s.trail) c.self.view_is
    (has_levels i.chains.clauses i.level i.trail.entries c.self.invariant.store.leveled)

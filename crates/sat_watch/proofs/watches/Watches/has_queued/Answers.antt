use Rattle.std.proofs.Common.{◌≡◌, ◌≤◌, None, ap, ◌∙◌, subst, arith}
use Rattle.std.proofs.lemmas.Bool.{ltb-false}
use Rattle.sat_watch.specs.Watches.{IsPropagatedAt, WatchState}
use Rattle.sat_watch.proofs.WatchesLemmas.{state_propagated}
use Rattle.sat_watch.proofs.watches.Watches.has_queued.Goals as goal

pub returns-clause-propagated : goal.returns-clause-propagated
returns-clause-propagated c = λ out quiet.
    let i = c.self.inside in
    let low : i.queued ≤ 0 = ltb-false 0 i.queued out in
    let none : i.pending ≡ None = ap (λ (s : WatchState). s.pending) c.self.view_is ∙ quiet in
    subst (λ (s : WatchState). IsPropagatedAt s s.level) c.self.view_is
    ((state_propagated i.chains i.trail i.queued i.level i.pending c.self.invariant).here
    (omega arith) none)

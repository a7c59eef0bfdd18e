use Rattle.std.proofs.Common.{ap, ◌∙◌}
use Rattle.sat_watch.specs.Watches.{WatchState}
use Rattle.sat_watch.proofs.AttachedLemmas.{added_state, true_watches}
use Rattle.sat_watch.proofs.watches.Watches.attach_true.Goals as goal

pub invariant_of-self-2 : goal.invariant_of-self-2
invariant_of-self-2 c =
    let i = c.self.inside in let none = ap (λ (s : WatchState). s.pending) c.self.view_is in
    true_watches i.trail i.queued i.level c.in_ok-c.ensures.ok c.in_ok-c.ensures.chained
    c.self.invariant (none ∙ c.requires.quiet) c.requires.i
    (rw (← c.self.view_is) at c.requires.only).1 (rw (← c.self.view_is) at c.requires.is_true)
    c.highest_position-j.ensures.level

pub returns-clause-ok : goal.returns-clause-ok
returns-clause-ok c =
    let i = c.self.inside in let none = ap (λ (s : WatchState). s.pending) c.self.view_is in
    rw (← c.self.view_is) (added_state i.trail i.queued i.level c.in_ok-c.ensures.ok i.pending
    (none ∙ c.requires.quiet))

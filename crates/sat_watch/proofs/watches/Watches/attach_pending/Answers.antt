use Rattle.std.proofs.Common.{Some, refl, ap, ◌∙◌}
use Rattle.sat_watch.specs.Watches.{WatchState}
use Rattle.sat_watch.proofs.AttachedLemmas.{added_state, pending_watches}
use Rattle.sat_watch.proofs.watches.Watches.attach_pending.Goals as goal

pub invariant_of-self-2 : goal.invariant_of-self-2
invariant_of-self-2 c =
    let i = c.self.inside in let none = ap (λ (s : WatchState). s.pending) c.self.view_is in
    pending_watches i.trail i.queued i.level c.in_ok-c.ensures.ok c.in_ok-c.ensures.chained
    c.self.invariant (none ∙ c.requires.quiet) c.requires.i
    (rw (← c.self.view_is) at c.requires.only) (rw (← c.self.view_is) at c.requires.is_open)
    (rw (← c.self.view_is) at c.requires.level) c.highest_position-j.ensures.level

pub returns-clause-ok : goal.returns-clause-ok
returns-clause-ok c =
    let i = c.self.inside in
    rw (← c.self.view_is)
    (added_state i.trail i.queued i.level c.in_ok-c.ensures.ok i.pending
    (refl {a = Some c.in_ok-c.c}))

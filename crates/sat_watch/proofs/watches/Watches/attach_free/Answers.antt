use Rattle.std.proofs.Common.{◌≤◌, length, ap, ◌∙◌, arith}
use Rattle.sat_watch.specs.Watches.{WatchState}
use Rattle.sat_watch.proofs.AttachedLemmas.{added_state, free_watches}
use Rattle.sat_watch.proofs.watches.Watches.attach_free.Goals as goal

pub invariant_of-self-2 : goal.invariant_of-self-2
invariant_of-self-2 c =
    let i = c.self.inside in let none = ap (λ (s : WatchState). s.pending) c.self.view_is in
    let two : 2 ≤ length c.args.lits.now =
    omega (arith, c.requires.i, c.requires.j, c.requires.other) in
    free_watches i.trail i.queued i.level c.in_ok-c.ensures.ok c.in_ok-c.ensures.chained
    c.self.invariant (none ∙ c.requires.quiet) two (rw (← c.self.view_is) at c.requires.free_i)
    (rw (← c.self.view_is) at c.requires.free_j)

pub returns-clause-ok : goal.returns-clause-ok
returns-clause-ok c =
    let i = c.self.inside in let none = ap (λ (s : WatchState). s.pending) c.self.view_is in
    rw (← c.self.view_is) (added_state i.trail i.queued i.level c.in_ok-c.ensures.ok i.pending
    (none ∙ c.requires.quiet))

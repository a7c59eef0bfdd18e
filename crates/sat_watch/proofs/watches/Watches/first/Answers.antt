use Rattle.std.proofs.Common.{sym, ap, ◌∙◌, subst}
use Rattle.sat_watch.specs.Watches.{AreInPlace, WatchState, first_attached}
use Rattle.sat_watch.proofs.WatchesLemmas.{attached_first, in_place}
use Rattle.sat_watch.proofs.watches.Watches.first.Goals as goal

pub returns-clause-value : goal.returns-clause-value
returns-clause-value c =
    let ks = c.self.inside.chains.clauses in
    c.first.ensures ∙
    (sym (attached_first ks) ∙ ap (λ (s : WatchState). first_attached s.clauses) c.self.view_is)

pub returns-clause-placed : goal.returns-clause-placed
returns-clause-placed c =
    let i = c.self.inside in
    subst (λ (s : WatchState). AreInPlace 0 s.clauses) c.self.view_is
    (in_place 0 i.chains.clauses c.self.invariant.whole.chained.placed)

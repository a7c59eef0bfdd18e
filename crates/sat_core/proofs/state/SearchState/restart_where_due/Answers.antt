use Rattle.std.proofs.Common.{subst, sym}
use Rattle.sat_watch.specs.Watches.{WatchState}
use Rattle.sat_core.specs.SearchStore.{IsSearchStore, SameKept, search_value}
use Rattle.sat_core.proofs.SearchLaws.{kept_begun, kept_refl, searching_by, store_begun}
use Rattle.sat_core.proofs.state.SearchState.restart_where_due.Goals as goal

pub returns-then-not-is_due : goal.returns-then-not-is_due
returns-then-not-is_due c = rw (← c.self.view_is) (kept_refl c.self.invariant.store)

pub invariant_of-self-2 : goal.invariant_of-self-2
invariant_of-self-2 c =
    let p = c.self.inside in
    searching_by c.self.invariant
    (subst (IsSearchStore p.inputs p.added p.attached p.aside) (sym c.go_back.ensures.back)
    (store_begun c.self.invariant.store)) c.go_back.ensures.ranked

pub returns : goal.returns
returns c =
    let p = c.self.inside in
    rw (← c.self.view_is)
    (subst (λ (w : WatchState). SameKept (search_value p.inputs p.added p.aside p.watches)
    (search_value p.inputs p.added p.aside w)) (sym c.go_back.ensures.back)
    (kept_begun c.self.invariant.store))

use Rattle.std.proofs.Common.{subst, sym}
use Rattle.sat_watch.specs.Watches.{WatchState}
use Rattle.sat_core.specs.SearchStore.{IsSearching, SameKept, search_value}
use Rattle.sat_core.proofs.DeleteLaws.{has_deleted, ranked_left, store_left, whether}
use Rattle.sat_core.proofs.SearchLaws.{kept_propagated, searching_by, store_propagated}
use Rattle.sat_core.proofs.state.SearchState.delete.Goals as goal
use Rattle.sat_core.proofs.state.SearchState.delete.Goals.{After-propagate_at_start}

-- it is propagated at level 0
propagated : (c : After-propagate_at_start) → IsSearching c.self.inside.inputs c.self.inside.added
    c.self.inside.attached c.self.inside.aside c.propagate_at_start.new.watches
    c.self.inside.findings c.propagate_at_start.new.ranking
propagated c =
    let says = c.propagate_at_start.ensures in
    searching_by c.self.invariant (store_propagated c.self.invariant.store says.goes says.level)
    says.ranked

pub invariant_of-self : goal.invariant_of-self
invariant_of-self c = propagated (goal.at.invariant_of-self c).After-propagate_at_start

pub returns-then-not-propagate_at_start-clause-same :
    goal.returns-then-not-propagate_at_start-clause-same
returns-then-not-propagate_at_start-clause-same c is_not =
    let says = c.propagate_at_start.ensures in
    rw (← c.self.view_is) (kept_propagated c.self.invariant.store says.goes says.level)

pub invariant_of-self-2 : goal.invariant_of-self-2
invariant_of-self-2 c =
    let p = c.self.inside in
    let says = c.propagate_at_start.ensures in
    let store = c.self.invariant.store in
    let last = c.last_id-above.ensures in
    whether c.delete_some.result
    (λ is_so.
    let erased = c.delete_some.ensures.erased is_so in
    searching_by c.self.invariant
    (store_left store says.goes says.level last.least last.last erased)
    (ranked_left store says.goes says.level last.least last.last erased says.ranked))
    (λ is_not.
    subst (λ (x : WatchState). IsSearching p.inputs p.added p.attached p.aside x p.findings
    c.propagate_at_start.new.ranking) (sym (c.delete_some.ensures.same is_not))
    (propagated (goal.at.invariant_of-self-2 c).After-propagate_at_start))

pub returns-clause-deleted : goal.returns-clause-deleted
returns-clause-deleted c is_so =
    let says = c.propagate_at_start.ensures in
    let last = c.last_id-above.ensures in
    rw (← c.self.view_is)
    (has_deleted c.self.invariant.store says.goes says.level last.least last.last
    (c.delete_some.ensures.erased is_so))

pub returns-clause-same : goal.returns-clause-same
returns-clause-same c is_not =
    let p = c.self.inside in
    let says = c.propagate_at_start.ensures in
    rw (← c.self.view_is)
    (subst (λ (x : WatchState). SameKept (search_value p.inputs p.added p.aside p.watches)
    (search_value p.inputs p.added p.aside x)) (sym (c.delete_some.ensures.same is_not))
    (kept_propagated c.self.invariant.store says.goes says.level))

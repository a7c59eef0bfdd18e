use Rattle.std.proofs.Common.{◌∙◌, sym}
use Rattle.sat_core.proofs.SearchLaws.{kept_propagated, searching_by, store_propagated}
use Rattle.sat_core.proofs.state.SearchState.start_anew.Goals as goal

pub invariant_of-self : goal.invariant_of-self
invariant_of-self c =
    let says = c.propagate_at_start.ensures in
    searching_by c.self.invariant (store_propagated c.self.invariant.store says.goes says.level)
    says.ranked

pub returns-clause-same : goal.returns-clause-same
returns-clause-same c =
    let says = c.propagate_at_start.ensures in
    rw (← c.self.view_is) (kept_propagated c.self.invariant.store says.goes says.level)

pub returns-clause-level : goal.returns-clause-level
returns-clause-level c =
    let says = c.propagate_at_start.ensures in
    let store = store_propagated c.self.invariant.store says.goes says.level in
    sym store.leveled.current ∙ says.level

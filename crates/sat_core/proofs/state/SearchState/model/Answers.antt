use Rattle.std.proofs.Common.{◌≡◌, ◌∙◌, ap, length, subst, sym}
use Rattle.sat_clause.specs.Trail.{IsClosed}
use Rattle.sat_core.specs.Deciding.{AreValuesOf}
use Rattle.sat_core.specs.Levels.{lits_of}
use Rattle.sat_core.specs.SearchStore.{AreTrue, IsPropagatedState, search_value}
use Rattle.sat_core.specs.Stands.{SearchValue}
use Rattle.sat_core.proofs.ModelLemmas.{if_ok_both}
use Rattle.sat_core.proofs.SearchLaws.{true_values}
use Rattle.sat_core.proofs.state.SearchState.model.Goals as goal

pub returns : goal.returns
returns c =
    let p = c.self.inside in
    let propagated = subst IsPropagatedState (sym c.self.view_is) c.requires.propagated in
    let closed = subst (λ (s : SearchValue). IsClosed s.vars (lits_of s.trail))
    (sym c.self.view_is) c.requires.closed in
    let vars : c.args.vars ≡ p.watches.vars =
    c.requires.vars ∙ ap (λ (s : SearchValue). s.vars) (sym c.self.view_is) in
    rw (← c.self.view_is)
    (if_ok_both c.values.result (λ values. length values.items ≡ p.watches.vars)
    (λ values. AreValuesOf p.watches.trail p.watches.vars values.items)
    (λ values. AreTrue (search_value p.inputs p.added p.aside p.watches) values.items)
    (λ values many truth. true_values p.inputs p.added p.aside p.watches values.items many truth
    propagated closed)
    (rw vars at c.values.ensures.many) (rw vars at c.values.ensures.truth))

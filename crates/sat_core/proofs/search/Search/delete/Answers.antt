use Rattle.std.proofs.Common.{◌≡◌, ◌∙◌, Err, Ok, ap, length, sym, subst}
use Rattle.sat_core.specs.Stands.{SearchAt}
use Rattle.sat_core.specs.Underway.{MayTurn}
use Rattle.sat_core.proofs.UnderwayLemmas.{may_after, none_added_after}
use Rattle.sat_core.proofs.search.Search.delete.Goals as goal
use Rattle.sat_core.proofs.search.Search.delete.Goals.{After-delete}

all : (c : After-delete) → c.self.inside.taken ≡ length c.args.log.now.steps
all c = ap (λ (s : SearchAt). s.taken) c.self.view_is ∙ c.requires

pub returns-in_err-gone-clause-may : goal.returns-in_err-gone-clause-may
returns-in_err-gone-clause-may c formula before =
    let p = c.self.inside in
    let steps = c.args.log.now.steps in
    let is = all (goal.at.returns-in_err-gone-clause-may c).After-delete in
    let says = c.in_err-gone.ensures in
    may_after (record { taken = p.taken; value = p.state }) steps is
    (record { taken = p.taken; value = c.delete.new.self }) c.delete.new.log.steps
    (is ∙ ap length (sym (says.same_log (λ e. cc))))
    (Err c.in_err-gone.field-0.0) says.deleted says.same says.same_log formula
    (subst (λ (s : SearchAt). MayTurn s formula steps) (sym c.self.view_is) before)

pub returns-clause-may : goal.returns-clause-may
returns-clause-may c formula before =
    let p = c.self.inside in
    let steps = c.args.log.now.steps in
    let says = c.in_ok-gone.ensures in
    may_after (record { taken = p.taken; value = p.state }) steps
    (all (goal.at.returns-clause-may c).After-delete)
    (record { taken = c.len-self-inside.result; value = c.delete.new.self }) c.delete.new.log.steps
    c.len-self-inside.ensures (Ok c.in_ok-gone.gone) says.deleted says.same says.same_log formula
    (subst (λ (s : SearchAt). MayTurn s formula steps) (sym c.self.view_is) before)

pub returns-clause-none_added : goal.returns-clause-none_added
returns-clause-none_added c =
    let p = c.self.inside in
    let says = c.in_ok-gone.ensures in
    none_added_after (record { taken = p.taken; value = p.state }) c.args.log.now.steps
    (all (goal.at.returns-clause-none_added c).After-delete)
    (record { taken = c.len-self-inside.result; value = c.delete.new.self }) c.delete.new.log.steps
    c.len-self-inside.ensures (Ok c.in_ok-gone.gone) says.deleted says.same says.same_log

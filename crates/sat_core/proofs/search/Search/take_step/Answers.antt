use Rattle.std.proofs.Common.{add-one, subst, sym}
use Rattle.sat_core.specs.Stands.{SearchAt}
use Rattle.sat_core.specs.Underway.{MayTurn}
use Rattle.sat_core.proofs.TurnLaws.{may_next, step_few}
use Rattle.sat_core.proofs.search.Search.take_step.Goals as goal

pub take-requires-clause-few : goal.take-requires-clause-few
take-requires-clause-few c =
    let log = c.args.log.now.steps in
    let step = c.step-step.result in
    let formula = c.requires.may.0 in
    let may = subst (λ (s : SearchAt). MayTurn s formula log) (sym c.self.view_is)
    c.requires.may.1 in
    step_few may step.erase step.id step.lits.now step.hints.now c.step-step.ensures.value

pub returns-clause-may : goal.returns-clause-may
returns-clause-may c formula before =
    let log = c.args.log.now.steps in
    let step = c.step-step.result in
    let may = subst (λ (s : SearchAt). MayTurn s formula log) (sym c.self.view_is) before in
    rw add-one (may_next may step.erase step.id step.lits.now step.hints.now
    c.step-step.ensures.value c.in_ok-take.ensures.ok)

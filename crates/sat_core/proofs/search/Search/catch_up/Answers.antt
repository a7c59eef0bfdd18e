use Rattle.std.proofs.Common.{subst, sym}
use Rattle.sat_core.specs.Stands.{SearchAt}
use Rattle.sat_core.specs.Underway.{MayTurn}
use Rattle.sat_core.proofs.TurnLaws.{may_along}
use Rattle.sat_core.proofs.search.Search.catch_up.Goals as goal

pub take_steps-requires-clause-may : goal.take_steps-requires-clause-may
take_steps-requires-clause-may c =
    let p = c.self.inside in
    let log = c.args.log.now.steps in
    let formula = c.requires.0 in (
      formula,
      may_along c.start_anew.ensures.same
          (subst (λ (s : SearchAt). MayTurn s formula log) (sym c.self.view_is) c.requires.1),
    )

pub returns-clause-may : goal.returns-clause-may
returns-clause-may c formula before =
    let p = c.self.inside in
    let log = c.args.log.now.steps in
    c.take_steps.ensures.may formula
    (may_along c.start_anew.ensures.same
    (subst (λ (s : SearchAt). MayTurn s formula log) (sym c.self.view_is) before))

use Rattle.std.proofs.Common.{subst, sym}
use Rattle.sat_core.specs.Stands.{SearchAt}
use Rattle.sat_core.specs.Underway.{MayFollow}
use Rattle.sat_core.proofs.ModelLemmas.{on_err_anyway}
use Rattle.sat_core.proofs.TurnLaws.{follow_along}
use Rattle.sat_core.proofs.search.Search.turn.Goals as goal

pub returns-in_err-turn-clause-follows : goal.returns-in_err-turn-clause-follows
returns-in_err-turn-clause-follows c =
    let p = c.self.inside in
    let formula = c.args.formula.now.cnf in
    let before = c.args.log.now.steps in
    let state = c.take_turn.new.search in
    let may = c.in_ok-catch_up.ensures.may formula c.requires in
    let follows = subst (λ (s : SearchAt). MayFollow s formula before) (sym c.self.view_is)
    may.follows in
    on_err_anyway c.from_residual-in_err-turn.result
    (subst (MayFollow (record { taken = p.taken; value = state }) formula)
    (sym c.in_err-turn.ensures.err)
    (follow_along c.in_err-turn.ensures.same follows))

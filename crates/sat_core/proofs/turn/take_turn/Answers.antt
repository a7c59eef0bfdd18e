use Rattle.std.proofs.Common.{◌≡◌, ◌≢◌, ◌∷◌, [], ◌++◌, length, subst, sym, ap, ◌∙◌}
use Rattle.std.specs.Prelude.{IfSome}
use Rattle.std.proofs.lemmas.Bool.{both_ways, eqb-true, eq-eqb}
use Rattle.std.proofs.lemmas.List.{nil_from_length}
use Rattle.sat_clause.specs.Step.{Added}
use Rattle.sat_core.specs.SearchStore.{IsLearnedClause, SameKept}
use Rattle.sat_core.proofs.ModelLemmas.{on_err_anyway}
use Rattle.sat_core.proofs.SearchLaws.{kept_then}
use Rattle.sat_core.proofs.UnderwayLemmas.{stands_along, turn_learned, turn_model, turn_refuted}
use Rattle.sat_core.proofs.turn.take_turn.Goals as goal
use Rattle.sat_core.proofs.turn.take_turn.Goals.{In-Some, In_ok-learned}

-- the search has the same clauses up to the learned one
same : (c : In_ok-learned) → SameKept c.args.search.now c.next_learned.new.self
same c = kept_then c.restart_where_due.ensures c.in_ok-learned.ensures.same

learned : (c : In-Some) → IsLearnedClause c.next_learned.new.self c.in-Some.learned.clause.items
    c.in-Some.learned.hints.items c.in-Some.learned.back
learned c =
    subst (λ o. IfSome o (λ l. IsLearnedClause c.next_learned.new.self l.clause.items l.hints.items
    l.back)) c.in-Some.is c.in_ok-learned.ensures.learned

pub returns-then-is_empty-clause-ok : goal.returns-then-is_empty-clause-ok
returns-then-is_empty-clause-ok c =
    let at = goal.at.returns-then-is_empty-clause-ok c in
    let learned_is = c.in-Some.learned in
    let none : learned_is.clause.items ≡ [] =
    nil_from_length learned_is.clause.items
    (sym learned_is.clause.ok.0 ∙ eqb-true learned_is.clause.len 0
    (sym c.is_empty.ensures ∙ c.if-is_empty.true)) in
    let is : c.add.new.self.steps ≡ c.args.log.now.steps
    ++ Added c.next_id-id.result learned_is.clause.items learned_is.hints.items ∷ [] =
    rw (
      ← c.deref.ensures.value,
      ← c.deref-then-is_empty.ensures.value,
      ← c.in_ok-reserve.ensures.kept,
    ) c.add.ensures.steps in
    turn_refuted (stands_along (same at.In_ok-learned) c.requires.stands) c.requires.open_log
    c.next_id-id.ensures (learned at.In-Some) none is

pub returns-clause-ok : goal.returns-clause-ok
returns-clause-ok c =
    let at = goal.at.returns-clause-ok c in
    let learned_is = c.in-Some.learned in
    let clause = learned_is.clause.items in
    let some : clause ≢ [] = λ none. both_ways _ (sym c.is_empty.ensures ∙ c.if-is_empty.false)
    (eq-eqb learned_is.clause.len 0 (learned_is.clause.ok.0 ∙ ap length none)) in
    let is : c.add-2.new.self.steps ≡ c.args.log.now.steps
    ++ Added c.next_id-id.result clause learned_is.hints.items ∷ [] =
    rw (← c.deref-2.ensures.value, ← c.deref-3.ensures.value, ← c.in_ok-reserve.ensures.kept)
    c.add-2.ensures.steps in
    rw c.reuse.ensures (turn_learned (stands_along (same at.In_ok-learned) c.requires.stands)
    c.requires.open_log c.next_id-id.ensures (learned at.In-Some) some c.in_ok-learn.ensures.ok is)

pub returns-in_default-clause-ok : goal.returns-in_default-clause-ok
returns-in_default-clause-ok c =
    let at = (goal.at.returns-in_default-clause-ok c).In_ok-learned in
    turn_model (stands_along (same at) c.requires.stands) c.requires.open_log
    c.vars.ensures.within c.in_ok-values.ensures

pub returns-in_err-learned-clause-same : goal.returns-in_err-learned-clause-same
returns-in_err-learned-clause-same c =
    on_err_anyway c.from_residual.result
    (kept_then c.restart_where_due.ensures c.in_err-learned.ensures.same)

pub returns-in_err-values-clause-same : goal.returns-in_err-values-clause-same
returns-in_err-values-clause-same c =
    on_err_anyway c.from_residual-in_err-values.result
    (same (goal.at.returns-in_err-values-clause-same c).In_ok-learned)

pub returns-in_err-reserve-clause-same : goal.returns-in_err-reserve-clause-same
returns-in_err-reserve-clause-same c =
    on_err_anyway c.from_residual-in_err-reserve.result
    (same (goal.at.returns-in_err-reserve-clause-same c).In_ok-learned)

pub returns-in_err-learn-clause-same : goal.returns-in_err-learn-clause-same
returns-in_err-learn-clause-same c =
    on_err_anyway c.from_residual-in_err-learn.result
    (kept_then (same (goal.at.returns-in_err-learn-clause-same c).In_ok-learned)
    c.in_err-learn.ensures.err)

use Rattle.std.proofs.Common.{◌≡◌, ◌<◌, [], All, AllPairs, true, ap, sym, ◌∙◌}
use Rattle.std.specs.Prelude.{IfOk}
use Rattle.std.proofs.lemmas.Result.{IfOk-weaker}
use Rattle.sat_arena.specs.declared.clause_ref.ClauseRef.{ClauseRef}
use Rattle.sat_watch.specs.Delete.{IsNoReason}
use Rattle.sat_watch.specs.Watches.{id_at, is_attached}
use Rattle.sat_core.specs.Deletable.{ArePartOf, IsDeletable, deletable, refs_of}
use Rattle.sat_core.proofs.DeletableLaws.{IsChosen, none_deletable, part_chosen}
use Rattle.sat_core.proofs.choosing.choose_deleted.Goals as goal
use Rattle.sat_core.proofs.choosing.choose_deleted.Goals.{After-choose_among}

module _ (c : After-choose_among) where
  -- it chooses among all that may be deleted
  all : refs_of c.deref.result.now ≡ deletable c.args.watches.now c.args.above
  all = ap refs_of c.deref.ensures.value ∙ c.in_ok-candidates.ensures.all

  chosen : IfOk c.choose_among.result (λ d. IsChosen c.args.watches.now c.args.above d.items)
  chosen =
      let w = c.args.watches.now in let above = c.args.above in
      IfOk-weaker c.choose_among.result (λ d. ArePartOf d.items (refs_of c.deref.result.now))
      (λ d. IsChosen w above d.items)
      (λ d is. part_chosen w above d.items (refs_of c.deref.result.now) all is
      c.in_ok-candidates.ensures.rising) c.choose_among.ensures.part

pub returns-clause-attached : goal.returns-clause-attached
returns-clause-attached c =
    let w = c.args.watches.now in
    IfOk-weaker c.choose_among.result (λ d. IsChosen w c.args.above d.items)
    (λ d. All (λ r. is_attached w.clauses r ≡ true) d.items) (λ d is. is.attached)
    (chosen (goal.at.returns-clause-attached c).After-choose_among)

pub returns-clause-learned : goal.returns-clause-learned
returns-clause-learned c =
    let w = c.args.watches.now in let above = c.args.above in
    IfOk-weaker c.choose_among.result (λ d. IsChosen w above d.items)
    (λ d. All (λ r. above < id_at w.clauses r) d.items) (λ d is. is.learned)
    (chosen (goal.at.returns-clause-learned c).After-choose_among)

pub returns-clause-no_reason : goal.returns-clause-no_reason
returns-clause-no_reason c =
    let w = c.args.watches.now in
    IfOk-weaker c.choose_among.result (λ d. IsChosen w c.args.above d.items)
    (λ d. All (IsNoReason w.trail) d.items) (λ d is. is.no_reason)
    (chosen (goal.at.returns-clause-no_reason c).After-choose_among)

pub returns-clause-apart : goal.returns-clause-apart
returns-clause-apart c =
    IfOk-weaker c.choose_among.result (λ d. IsChosen c.args.watches.now c.args.above d.items)
    (λ d. AllPairs (λ (a b : ClauseRef). a.word < b.word) d.items) (λ d is. is.apart)
    (chosen (goal.at.returns-clause-apart c).After-choose_among)

pub returns-clause-none : goal.returns-clause-none
returns-clause-none c =
    let w = c.args.watches.now in let above = c.args.above in
    let is = all (goal.at.returns-clause-none c).After-choose_among in
    IfOk-weaker c.choose_among.result (λ d. d.items ≡ [] → refs_of c.deref.result.now ≡ [])
    (λ d. d.items ≡ [] → (r : ClauseRef) → IsDeletable w above r → ⊥)
    (λ d none empty. none_deletable w above (sym is ∙ none empty))
    c.choose_among.ensures.none

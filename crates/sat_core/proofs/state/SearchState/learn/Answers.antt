use Rattle.std.proofs.Common.{◌≡◌, ◌∙◌, ◌<◌, ◌-◌, ◌+◌, Some, length, slice_get, suc, ap, subst, sym, arith}
use Rattle.sat_watch.specs.Watches.{Attaches, WatchState}
use Rattle.sat_core.specs.Ranking.{IsRanked}
use Rattle.sat_core.specs.SearchStore.{IsSearchStore, Learns, search_value}
use Rattle.sat_core.specs.Stands.{SearchValue}
use Rattle.sat_core.proofs.LearnLaws.{has_last, kept_back, learn_attached, learn_inside, learn_may, learn_open, learn_reason, learn_simple, learns, ranked_learned, store_back, store_learned, vars_back}
use Rattle.sat_core.proofs.ModelLemmas.{on_err_anyway}
use Rattle.sat_core.proofs.SearchLaws.{kept_refl}
use Rattle.sat_core.proofs.state.SearchState.learn.Goals as goal
use Rattle.sat_core.proofs.state.SearchState.learn.Goals.{In_ok-c}

-- the clause is attached behind the way back, under the next id, and has this last literal
module _ (c : In_ok-c) where
  does : Attaches c.go_back.new.watches c.attach.new.self c.args.learned.now.clause.items
      c.next_id-id.result c.in_ok-c.c
  does = rw c.deref-2.ensures.value at c.in_ok-c.ensures.ok

  next : c.next_id-id.result ≡ suc (c.self.inside.inputs + c.self.inside.added)
  next =
      let counted = ap (λ (s : SearchValue). s.inputs + s.added) c.self.view_is in
      omega (arith, c.next_id-id.ensures, counted)

  last : slice_get c.args.learned.now.clause.items (length c.args.learned.now.clause.items - 1)
      ≡ Some c.in-Some.last.now
  last = rw (← c.deref.ensures.value) (sym c.in-Some.ensures.value)

pub unreachable-requires : goal.unreachable-requires
unreachable-requires c =
    has_last c.args.learned.now.clause.items c.requires.some (rw (← c.deref.ensures.value)
    (sym c.in_default.ensures.value))

pub attach-requires-clause-simple : goal.attach-requires-clause-simple
attach-requires-clause-simple c =
    rw c.deref-2.ensures.value (learn_simple c.self.invariant.store c.self.view_is
    c.requires.learned c.requires.some c.go_back.ensures.back)

pub attach-requires-clause-quiet : goal.attach-requires-clause-quiet
attach-requires-clause-quiet c =
    let store = store_back c.self.invariant.store c.self.view_is c.requires.learned c.requires.some
    c.go_back.ensures.back in
    store.none_pending

pub attach-requires-clause-may : goal.attach-requires-clause-may
attach-requires-clause-may c =
    rw c.deref-2.ensures.value (learn_may c.self.invariant.store c.self.view_is c.requires.learned
    c.requires.some c.go_back.ensures.back)

pub invariant_of-self-in_err-c : goal.invariant_of-self-in_err-c
invariant_of-self-in_err-c c =
    let back = c.in_err-c.ensures.err ∙ c.go_back.ensures.back in
    record {
      store = store_back c.self.invariant.store c.self.view_is c.requires.learned c.requires.some
          back;
      ready = rw (vars_back c.self.invariant.store c.self.view_is c.requires.learned c.requires.some
          back) c.self.invariant.ready;
      ranked = subst (λ (s : WatchState). IsRanked s.vars s.trail c.go_back.new.ranking)
          (sym c.in_err-c.ensures.err) c.go_back.ensures.ranked;
    }

pub imply-requires-clause-within : goal.imply-requires-clause-within
imply-requires-clause-within c =
    let at = (goal.at.imply-requires-clause-within c).In_ok-c in
    learn_inside c.self.invariant.store c.self.view_is c.requires.learned c.requires.some
    c.go_back.ensures.back (does at) (next at) (last at)

pub imply-requires-clause-open : goal.imply-requires-clause-open
imply-requires-clause-open c =
    let at = (goal.at.imply-requires-clause-open c).In_ok-c in
    learn_open c.self.invariant.store c.self.view_is c.requires.learned c.requires.some
    c.go_back.ensures.back (does at) (next at) (last at)

pub imply-requires-clause-attached : goal.imply-requires-clause-attached
imply-requires-clause-attached c =
    let at = (goal.at.imply-requires-clause-attached c).In_ok-c in
    learn_attached c.self.invariant.store c.self.view_is c.requires.learned c.requires.some
    c.go_back.ensures.back (does at) (next at) (last at)

pub imply-requires-clause-unit : goal.imply-requires-clause-unit
imply-requires-clause-unit c =
    let at = (goal.at.imply-requires-clause-unit c).In_ok-c in
    learn_reason c.self.invariant.store c.self.view_is c.requires.learned c.requires.some
    c.go_back.ensures.back (does at) (next at) (last at)

pub invariant_of-self-2 : goal.invariant_of-self-2
invariant_of-self-2 c =
    let p = c.self.inside in
    let at = (goal.at.invariant_of-self-2 c).In_ok-c in
    let few = subst (λ (s : SearchValue). s.inputs + s.added < 4294967295)
    (sym c.self.view_is) c.requires.few in
    let vars = vars_back c.self.invariant.store c.self.view_is c.requires.learned c.requires.some
    c.go_back.ensures.back in
    record {
      store = subst (IsSearchStore p.inputs (p.added + 1) p.attached p.aside) (sym c.imply.ensures)
          (store_learned c.self.invariant.store c.self.view_is c.requires.learned c.requires.some
          c.go_back.ensures.back (does at) (next at) (last at) (omega (arith, few)));
      ready = rw (ap (λ (s : WatchState). s.vars) c.imply.ensures
          ∙ ap (λ (s : WatchState). s.vars) (does at).is ∙ vars) c.self.invariant.ready;
      ranked = subst (λ (s : WatchState). IsRanked s.vars s.trail c.go_back.new.ranking)
          (sym c.imply.ensures) (ranked_learned c.self.invariant.store c.self.view_is
          c.requires.learned c.requires.some c.go_back.ensures.back (does at) (next at) (last at)
          c.go_back.ensures.ranked);
    }

pub returns-clause-ok : goal.returns-clause-ok
returns-clause-ok c =
    let p = c.self.inside in
    let at = (goal.at.returns-clause-ok c).In_ok-c in
    subst (λ (w : WatchState). Learns c.args.self.now (search_value p.inputs (p.added + 1) p.aside
    w) c.args.learned.now.clause.items) (sym c.imply.ensures) (learns c.self.invariant.store
    c.self.view_is c.requires.learned c.requires.some c.go_back.ensures.back (does at) (next at)
    (last at))

pub returns-in_err-c-clause-err : goal.returns-in_err-c-clause-err
returns-in_err-c-clause-err c =
    on_err_anyway c.from_residual-in_err-c.result (kept_back c.self.invariant.store c.self.view_is
    c.requires.learned c.requires.some (c.in_err-c.ensures.err ∙ c.go_back.ensures.back))

pub returns-in_err-insert-clause-err : goal.returns-in_err-insert-clause-err
returns-in_err-insert-clause-err c =
    on_err_anyway c.from_residual.result (rw (← c.self.view_is) (kept_refl c.self.invariant.store))

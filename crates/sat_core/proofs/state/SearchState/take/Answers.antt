use Rattle.std.proofs.Common.{◌≡◌, ◌∙◌, ◌+◌, ◌<◌, Ok, suc, add-one, ap, subst, sym, arith}
use Rattle.sat_clause.specs.Learned.{IsSimple}
use Rattle.sat_clause.specs.Live.{put}
use Rattle.sat_core.specs.Levels.{level_of}
use Rattle.sat_core.specs.SearchStore.{IsSearchStore}
use Rattle.sat_core.specs.Stands.{SearchValue}
use Rattle.sat_core.specs.Start.{IsTaken}
use Rattle.sat_core.proofs.RankingLaws.{ranked_more}
use Rattle.sat_core.proofs.SearchLaws.{learns_aside, learns_foreign, none_aside, searching_by, store_aside, store_foreign}
use Rattle.sat_core.proofs.state.SearchState.take.Goals as goal
use Rattle.sat_core.proofs.state.SearchState.take.Goals.{After-next_id-id, In_ok-add, Then-branch}

-- the clause has the next id
next : (c : After-next_id-id) → c.next_id-id.result
    ≡ suc (c.self.inside.inputs + c.self.inside.added)
next c =
    let counted = ap (λ (s : SearchValue). s.inputs + s.added) c.self.view_is in
    omega (arith, c.next_id-id.ensures, counted)

few : (c : After-next_id-id) → c.self.inside.inputs + c.self.inside.added < 4294967295
few c =
    let counted = ap (λ (s : SearchValue). s.inputs + s.added) c.self.view_is in
    omega (arith, c.requires.few, counted)

simple : (c : After-next_id-id) → IsSimple (c.self.inside).watches.vars c.args.lits.now
simple c =
    subst (λ (s : SearchValue). IsSimple s.vars c.args.lits.now) (sym c.self.view_is)
    c.requires.simple

-- it is attached
taken : (c : Then-branch) → IsTaken (c.self.inside).watches c.attach_at_start.new.watches
    c.args.lits.now c.next_id-id.result
taken c = c.in_ok-attach_at_start.ensures.attached (ap Ok c.if-branch.true)

-- or it is laid aside
module _ (c : In_ok-add) where
  same : c.attach_at_start.new.watches ≡ (c.self.inside).watches
  same = c.in_ok-attach_at_start.ensures.same (ap Ok c.if-branch.false)

  list : c.add.new.self ≡ record {
    vars = (c.self.inside).aside.vars;
    clauses = put (c.self.inside).aside.clauses c.next_id-id.result c.args.lits.now;
  }
  list = λ i. record { vars = c.in_ok-add.ensures.vars i; clauses = c.in_ok-add.ensures.ok i }

pub invariant_of-self-then-branch : goal.invariant_of-self-then-branch
invariant_of-self-then-branch c =
    let at = goal.at.invariant_of-self-then-branch c in
    let is = taken at.Then-branch in
    searching_by c.self.invariant
    (rw add-one (store_foreign is c.self.invariant.store (next at.After-next_id-id)
    (simple at.After-next_id-id) (omega (arith, few at.After-next_id-id))))
    (rw is.vars (ranked_more c.attach_at_start.new.watches.trail is.values
    c.self.invariant.ranked))

pub returns-then-branch-clause-ok : goal.returns-then-branch-clause-ok
returns-then-branch-clause-ok c =
    let at = goal.at.returns-then-branch-clause-ok c in
    rw (← c.self.view_is, add-one)
    (learns_foreign (taken at.Then-branch) c.self.invariant.store (next at.After-next_id-id)
    (simple at.After-next_id-id))

pub add-requires-clause-new : goal.add-requires-clause-new
add-requires-clause-new c =
    none_aside c.args.lits.now c.self.invariant.store
    (next (goal.at.add-requires-clause-new c).After-next_id-id) c.requires.simple.once

pub invariant_of-self-2 : goal.invariant_of-self-2
invariant_of-self-2 c =
    let p = c.self.inside in
    let at = goal.at.invariant_of-self-2 c in
    let store = c.self.invariant.store in
    let level : p.watches.level ≡ 0 = store.leveled.current
    ∙ subst (λ (s : SearchValue). level_of s.trail ≡ 0) (sym c.self.view_is) c.requires.level in
    let aside : IsSearchStore p.inputs (p.added + 1) p.attached c.add.new.self p.watches =
    rw (add-one, list at.In_ok-add) (store_aside c.args.lits.now store (next at.After-next_id-id)
    c.requires.simple.once (omega (arith, few at.After-next_id-id)) level) in
    rw (same at.In_ok-add) (record {
      store = aside;
      ready = c.self.invariant.ready;
      ranked = c.self.invariant.ranked;
    })

pub returns-clause-ok : goal.returns-clause-ok
returns-clause-ok c =
    let at = goal.at.returns-clause-ok c in
    rw (← c.self.view_is, add-one, same at.In_ok-add, list at.In_ok-add)
    (learns_aside c.args.lits.now c.self.invariant.store (next at.After-next_id-id)
    c.requires.simple.once)

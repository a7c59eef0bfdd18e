use Rattle.std.proofs.Common.{◌≡◌, ◌+◌, Ok, length, add-one, ap, subst, sym, inl, inr, arith}
use Rattle.sat_clause.specs.Trail.{IsClosed}
use Rattle.sat_core.specs.SearchStore.{IsSearchStore, IsSearching}
use Rattle.sat_core.specs.Start.{IsTaken}
use Rattle.sat_core.proofs.FoundLaws.{attached_learned, current_literal, single_learned}
use Rattle.sat_core.proofs.RankingLaws.{ranked_more}
use Rattle.sat_core.proofs.SearchLaws.{kept_decided, kept_refl, kept_taken, kept_then, searching_by, searching_held, propagated_now, single_simple, store_decided, store_taken}
use Rattle.sat_core.proofs.WatchLaws.{lits_in}
use Rattle.sat_core.proofs.state.SearchState.next_learned.Goals as goal
use Rattle.sat_core.proofs.state.SearchState.next_learned.Goals.{After-decide_on, In-Some, Then-not-branch}

-- a clause that waits is false, and the watches are the same
unchanged : (c : Then-not-branch) → IsSearching (c.loop-self.self-inside).inputs
    (c.loop-self.self-inside).added (c.loop-self.self-inside).attached
    (c.loop-self.self-inside).aside c.attach_at_start.new.watches
    (c.loop-self.self-inside).findings (c.loop-self.self-inside).ranking
unchanged c =
    rw (c.in_ok-attach_at_start.ensures.same (ap Ok c.if-not-branch.true))
    c.loop-self.invariant.searching

-- behind the loop all clauses that waited are attached
all_attached : (c : After-decide_on) → (c.loop-self.self-inside).attached
    ≡ length (c.loop-self.self-inside).aside.clauses
all_attached c =
    let store = c.loop-self.invariant.searching.store in
    omega (arith, c.loop-self-test.false, c.len.ensures, store.few_taken)

-- a clause is false behind decisions
decided : (c : In-Some) → (c.loop-self.self-inside).attached
    ≡ length (c.loop-self.self-inside).aside.clauses →
    IsSearching (c.loop-self.self-inside).inputs (c.loop-self.self-inside).added
    (c.loop-self.self-inside).attached (c.loop-self.self-inside).aside c.decide_on.new.watches
    (c.loop-self.self-inside).findings c.decide_on.new.ranking
decided c all =
    let was = c.loop-self.invariant.searching in
    searching_by was (store_decided was.store c.in-Some.ensures.goes (inl all))
    c.in-Some.ensures.ranked

pub loop-self-init : goal.loop-self-init
loop-self-init c =
    record { searching = c.self.invariant; same = kept_refl c.self.invariant.store }

pub attach_at_start-requires-clause-simple : goal.attach_at_start-requires-clause-simple
attach_at_start-requires-clause-simple c =
    single_simple c.get-waiting.result.id c.loop-self.invariant.searching.store
    c.get-waiting.ensures.found c.get-waiting.ensures.within

pub attach_at_start-requires-clause-level : goal.attach_at_start-requires-clause-level
attach_at_start-requires-clause-level c =
    elim c.loop-self.invariant.searching.store.waiting [
      | inl all ↦ absurd (omega (arith, all, c.loop-self-test.true, c.len.ensures))
      | inr low ↦ low
    ]

pub find_learned-requires-clause-within : goal.find_learned-requires-clause-within
find_learned-requires-clause-within c =
    let is = unchanged (goal.at.find_learned-requires-clause-within c).Then-not-branch in
    let simple = single_simple c.get-waiting.result.id is.store c.get-waiting.ensures.found
    c.get-waiting.ensures.within in
    simple.within

pub find_learned-requires-clause-current : goal.find_learned-requires-clause-current
find_learned-requires-clause-current c known some =
    let is = unchanged (goal.at.find_learned-requires-clause-current c).Then-not-branch in
    elim is.store.waiting [
      | inl all ↦ absurd (omega (arith, all, c.loop-self-test.true, c.len.ensures))
      | inr low ↦ absurd (omega (arith, low, some))
    ]

pub invariant_of-self-in_err-learned : goal.invariant_of-self-in_err-learned
invariant_of-self-in_err-learned c =
    searching_held (unchanged (goal.at.invariant_of-self-in_err-learned c).Then-not-branch)
    c.in_err-learned.ensures.ready c.in_err-learned.ensures.held

pub invariant_of-self-then-not-branch : goal.invariant_of-self-then-not-branch
invariant_of-self-then-not-branch c =
    searching_held (unchanged (goal.at.invariant_of-self-then-not-branch c).Then-not-branch)
    c.in_ok-learned.ensures.ready c.in_ok-learned.ensures.held

pub returns-then-not-branch-clause-learned : goal.returns-then-not-branch-clause-learned
returns-then-not-branch-clause-learned c =
    let is = unchanged (goal.at.returns-then-not-branch-clause-learned c).Then-not-branch in
    let ensures = c.in_ok-attach_at_start.ensures in
    single_learned is.store c.in_ok-learned.ensures.found c.get-waiting.ensures.found
    (rw (ensures.same (ap Ok c.if-not-branch.true)) (ensures.is_false (ap Ok c.if-not-branch.true)))

pub loop-self-preserved : goal.loop-self-preserved
loop-self-preserved c =
    let q = c.loop-self.self-inside in
    let now = c.attach_at_start.new.watches in
    let was = c.loop-self.invariant.searching in
    let taken : IsTaken q.watches now c.get-waiting.result.lits.now c.get-waiting.result.id =
    c.in_ok-attach_at_start.ensures.attached (ap Ok c.if-not-branch.false) in
    let simple = single_simple c.get-waiting.result.id was.store c.get-waiting.ensures.found
    c.get-waiting.ensures.within in
    let store : IsSearchStore q.inputs q.added (q.attached + 1) q.aside now = rw add-one
    (store_taken taken was.store c.get-waiting.ensures.at c.get-waiting.ensures.found simple) in
    record {
      searching = searching_by was store
          (rw taken.vars (ranked_more now.trail taken.values was.ranked));
      same = kept_then c.loop-self.invariant.same
          (kept_taken taken was.store c.get-waiting.ensures.at c.get-waiting.ensures.found simple);
    }

pub invariant_of-self-in_default : goal.invariant_of-self-in_default
invariant_of-self-in_default c =
    let was = c.loop-self.invariant.searching in
    let all = all_attached (goal.at.invariant_of-self-in_default c).After-decide_on in
    searching_by was (store_decided was.store c.in_default.ensures.goes (inl all))
    c.in_default.ensures.ranked

pub returns-in_default-clause-same : goal.returns-in_default-clause-same
returns-in_default-clause-same c =
    let store = c.loop-self.invariant.searching.store in
    let all = all_attached (goal.at.returns-in_default-clause-same c).After-decide_on in
    rw (← c.self.view_is)
    (kept_then c.loop-self.invariant.same (kept_decided store c.in_default.ensures.goes (inl all)))

pub returns-in_default-clause-propagated : goal.returns-in_default-clause-propagated
returns-in_default-clause-propagated c =
    let store = c.loop-self.invariant.searching.store in
    let all = all_attached (goal.at.returns-in_default-clause-propagated c).After-decide_on in
    propagated_now store c.in_default.ensures.goes (inl all) all c.in_default.ensures.propagated

pub returns-in_default-clause-closed : goal.returns-in_default-clause-closed
returns-in_default-clause-closed c =
    let now = c.decide_on.new.watches in
    subst (IsClosed now.vars) (sym (lits_in now.clauses now.trail)) c.in_default.ensures.closed

pub find_learned-requires-2-clause-current : goal.find_learned-requires-2-clause-current
find_learned-requires-2-clause-current c =
    let now = c.decide_on.new.watches in
    let is = c.in-Some.ensures.conflict in
    rw c.lits-lits.ensures.value (current_literal now c.in-Some.c is.0 is.1)

pub invariant_of-self-in_err-learned-2 : goal.invariant_of-self-in_err-learned-2
invariant_of-self-in_err-learned-2 c =
    let at = goal.at.invariant_of-self-in_err-learned-2 c in
    searching_held (decided at.In-Some (all_attached at.After-decide_on))
    c.in_err-learned-2.ensures.ready c.in_err-learned-2.ensures.held

pub invariant_of-self-2 : goal.invariant_of-self-2
invariant_of-self-2 c =
    let at = goal.at.invariant_of-self-2 c in
    searching_held (decided at.In-Some (all_attached at.After-decide_on))
    c.in_ok-learned-2.ensures.ready c.in_ok-learned-2.ensures.held

pub returns-clause-same : goal.returns-clause-same
returns-clause-same c =
    let store = c.loop-self.invariant.searching.store in
    let all = all_attached (goal.at.returns-clause-same c).After-decide_on in
    rw (← c.self.view_is)
    (kept_then c.loop-self.invariant.same (kept_decided store c.in-Some.ensures.goes (inl all)))

pub returns-clause-learned : goal.returns-clause-learned
returns-clause-learned c =
    let at = goal.at.returns-clause-learned c in
    let searching = decided at.In-Some (all_attached at.After-decide_on) in
    let is = c.in-Some.ensures.conflict in
    attached_learned searching.store c.in-Some.c is.0 is.1
    (rw (c.lits-lits.ensures.value, c.id-id.ensures.value) at c.in_ok-learned-2.ensures.found)

pub returns-in_err-learned-2-clause-same : goal.returns-in_err-learned-2-clause-same
returns-in_err-learned-2-clause-same c =
    let store = c.loop-self.invariant.searching.store in
    let all = all_attached (goal.at.returns-in_err-learned-2-clause-same c).After-decide_on in
    rw (← c.self.view_is)
    (kept_then c.loop-self.invariant.same (kept_decided store c.in-Some.ensures.goes (inl all)))

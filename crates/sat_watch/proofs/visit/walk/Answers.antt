use Rattle.std.proofs.Common.{IfNone, Option, None, Some, refl, sym, subst, ◌∙◌, arith}
use Rattle.sat_watch.specs.Tails.{IsTail, refs}
use Rattle.sat_watch.specs.Watched.{IsWalking}
use Rattle.sat_watch.proofs.GoesLemmas.{goes_trans}
use Rattle.sat_watch.proofs.WalkLemmas.{counts_here, few_here, goes_here, tail_counts, tail_ends, tail_few, walk_begins, walk_counts, walk_ends, walk_shorter, walks_on}
use Rattle.sat_watch.proofs.visit.walk.Goals as goal
use Rattle.sat_watch.proofs.visit.walk.Goals.{In-Some-tail_from}

pub loop-next-init : goal.loop-next-init
loop-next-init c = record {
  vars = refl;
  whole = c.requires.whole;
  visits = refl;
  walking =
      subst (λ b. IsWalking c.args.trail.now.entries c.args.level c.args.f
      c.args.chains.now.clauses 0 c.args.chains.now c.args.trail.now.entries b c.head-next.result
      0) (sym c.none-before.ensures)
      (walk_begins c.args.trail.now.entries c.args.level c.args.f c.args.chains.now 0
      c.head-next.result
      c.requires.whole.chained c.requires.within c.head-next.ensures);
}

pub overflow_add-walked : goal.overflow_add-walked
overflow_add-walked c =
    let few = counts_here c.loop-next.invariant.walking c.in-Some.is c.after-after.ensures.few in
    record { fits = omega arith }

pub place-at-requires : goal.place-at-requires
place-at-requires c = record { goes = goes_here c.loop-next.invariant.walking c.in-Some.is }

pub returns-in_default-visit_clause-clause-goes : goal.returns-in_default-visit_clause-clause-goes
returns-in_default-visit_clause-clause-goes c =
    goes_trans c.loop-next.invariant.walking.goes c.visit_clause.ensures.goes

pub loop-next-smaller : goal.loop-next-smaller
loop-next-smaller c =
    walk_shorter c.loop-next.invariant.walking c.in-Some.is c.place-at.ensures.clause
    c.in-Some-visit_clause.ensures.visited c.visit_clause.ensures.goes

pub loop-next-preserved : goal.loop-next-preserved
loop-next-preserved c =
    let l = c.loop-next in
    record {
      vars = c.visit_clause.ensures.vars ∙ l.invariant.vars;
      whole = c.visit_clause.ensures.whole;
      visits = l.invariant.visits;
      walking =
          walks_on l.invariant.walking c.in-Some.is c.place-at.ensures.clause
          c.in-Some-visit_clause.ensures.visited c.visit_clause.ensures.goes;
    }

pub returns-in_default-visit_clause-clause-visits :
    goal.returns-in_default-visit_clause-clause-visits
returns-in_default-visit_clause-clause-visits c =
    let l = c.loop-next in let few = few_here l.invariant.walking c.in-Some.is in
    omega (arith, c.saturating_add-in_default-visit_clause.ensures, l.invariant.visits, few)

pub returns-clause-visits : goal.returns-clause-visits
returns-clause-visits c =
    let l = c.loop-next in let few = l.invariant.walking.few in
    omega (arith, c.saturating_add-2.ensures, l.invariant.visits, few)

pub returns-clause-each : goal.returns-clause-each
returns-clause-each c =
    let l = c.loop-next in
    let each = walk_counts l.invariant.walking c.in_default.is l.invariant.whole.chained in
    omega (arith, c.saturating_add-2.ensures, l.invariant.visits)

pub returns-clause-none : goal.returns-clause-none
returns-clause-none c =
    walk_ends c.loop-next.invariant.walking c.in_default.is c.loop-next.invariant.whole.chained

-- what the tail of the chain is, where the walk comes to it
tail : (c : In-Some-tail_from) →
    IsTail c.loop-next.chains.clauses c.args.f c.loop-next.next c.in-Some-tail_from.others.now
    (refs c.in-Some-tail_from.words.now) None
tail c =
    subst (λ n. IsTail c.loop-next.chains.clauses c.args.f n c.in-Some-tail_from.others.now
    (refs c.in-Some-tail_from.words.now) None) (sym c.in-Some.is) c.in-Some-tail_from.ensures

pub returns-in-Some-tail_from-clause-goes : goal.returns-in-Some-tail_from-clause-goes
returns-in-Some-tail_from-clause-goes c =
    goes_trans c.loop-next.invariant.walking.goes c.walk_tail.ensures.goes

pub returns-in-Some-tail_from-clause-visits : goal.returns-in-Some-tail_from-clause-visits
returns-in-Some-tail_from-clause-visits c =
    let at = (goal.at.returns-in-Some-tail_from-clause-visits c).In-Some-tail_from in
    let l = c.loop-next in
    let few = tail_few l.invariant.walking c.in-Some-tail_from.others.now
    (refs c.in-Some-tail_from.words.now) (tail at) c.walk_tail.ensures.goes in
    omega (arith, c.saturating_add.ensures, l.invariant.visits, c.walk_tail.ensures.visits)

-- what follows from a fact follows where there is none too
none_more : {X A B : Type 0} (o : Option X) → (A → B) → IfNone o A → IfNone o B
none_more None more a = more a
none_more (Some x) more a = tt

pub returns-in-Some-tail_from-clause-none : goal.returns-in-Some-tail_from-clause-none
returns-in-Some-tail_from-clause-none c =
    let at = (goal.at.returns-in-Some-tail_from-clause-none c).In-Some-tail_from in
    let l = c.loop-next in
    none_more c.walk_tail.result
    (λ all. tail_ends l.invariant.walking c.in-Some-tail_from.others.now
    (refs c.in-Some-tail_from.words.now) (tail at) c.walk_tail.ensures.goes all
    l.invariant.whole.chained)
    c.walk_tail.ensures.none

pub returns-in-Some-tail_from-clause-each : goal.returns-in-Some-tail_from-clause-each
returns-in-Some-tail_from-clause-each c =
    let at = (goal.at.returns-in-Some-tail_from-clause-each c).In-Some-tail_from in
    let l = c.loop-next in
    let counts = tail_counts l.invariant.walking c.in-Some-tail_from.others.now
    (refs c.in-Some-tail_from.words.now) (tail at) c.walk_tail.ensures.goes
    l.invariant.whole.chained in
    none_more c.walk_tail.result
    (λ each. omega (arith, c.saturating_add.ensures, l.invariant.visits)) c.walk_tail.ensures.each

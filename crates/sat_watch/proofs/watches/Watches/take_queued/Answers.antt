use Rattle.std.proofs.Common.{◌≡◌, ◌-◌, length, None, Some, true, All, refl, sym, ap, ◌∙◌, subst, arith, length-append}
use Rattle.sat_watch.specs.Watched.{is_false}
use Rattle.sat_watch.proofs.WatchesLemmas.{IsStep, at_false, at_queue, attached_held, attached_lits, step_each, step_ended, step_fewer, step_visits, step_propagates, step_stopped}
use Rattle.sat_watch.proofs.watches.Watches.take_queued.Goals as goal
use Rattle.sat_watch.proofs.watches.Watches.take_queued.Goals.{After-len}

step : (c : After-len) →
    IsStep c.self.inside.chains c.walk-found.new.chains c.self.inside.trail c.walk-found.new.trail
    c.self.inside.queued c.self.inside.level c.self.inside.pending c.negation.result
    c.at-entry.result (c.len.result - c.len-before.result)
step c =
    let goes = c.walk-found.ensures.goes in
    record {
      queue = at_queue c.self.invariant c.self.view_is c.requires.quiet c.requires.some;
      entry = c.at-entry.ensures.value;
      literal = c.negation.ensures.value;
      some = rw c.negation.ensures.variable c.at-entry.ensures.within.0;
      vars = c.walk-found.ensures.vars;
      whole = c.walk-found.ensures.whole;
      goes = goes;
      more = omega (
        arith,
        c.len.ensures,
        c.len-before.ensures,
        ap length goes.grows.is,
        length-append goes.grows.added c.self.inside.trail.entries,
      );
    }

pub negation-requires : goal.negation-requires
negation-requires c =
    c.at-entry.ensures.literal

pub walk-found-requires-clause-is_false : goal.walk-found-requires-clause-is_false
walk-found-requires-clause-is_false c =
    let i = c.self.inside in
    let queue = at_queue c.self.invariant c.self.view_is c.requires.quiet c.requires.some in
    let some = queue.some in let few = queue.few in
    rw c.negation.ensures.value (at_false i.trail.entries (i.queued - 1) c.at-entry.result
    (omega arith) c.at-entry.ensures.value)

pub invariant_of-self : goal.invariant_of-self
invariant_of-self c = step_stopped (step (goal.at.invariant_of-self c).After-len)

pub invariant_of-self-2 : goal.invariant_of-self-2
invariant_of-self-2 c =
    step_ended (step (goal.at.invariant_of-self-2 c).After-len) c.in_default.ensures.none

pub returns-in-Some-clause-propagates : goal.returns-in-Some-clause-propagates
returns-in-Some-clause-propagates c =
    rw (← c.self.view_is)
    (step_propagates (step (goal.at.returns-in-Some-clause-propagates c).After-len) _)

pub returns-clause-propagates : goal.returns-clause-propagates
returns-clause-propagates c =
    rw (← c.self.view_is)
    (step_propagates (step (goal.at.returns-clause-propagates c).After-len) _)

pub returns-in-Some-clause-attached : goal.returns-in-Some-clause-attached
returns-in-Some-clause-attached c =
    attached_held c.walk-found.new.chains.clauses c.in-Some.c ∙ c.in-Some.ensures.held

pub returns-in-Some-clause-stopped : goal.returns-in-Some-clause-stopped
returns-in-Some-clause-stopped c =
    subst (All (λ m. is_false c.walk-found.new.trail.entries m ≡ true))
    (sym (attached_lits c.walk-found.new.chains.clauses c.in-Some.c)) c.in-Some.ensures.stopped

pub returns-in-Some-clause-visits : goal.returns-in-Some-clause-visits
returns-in-Some-clause-visits c =
    rw (← c.self.view_is)
    (step_visits (step (goal.at.returns-in-Some-clause-visits c).After-len) _ (Some c.in-Some.c) _ _
    refl c.walk-found.ensures.visits)

pub returns-clause-visits : goal.returns-clause-visits
returns-clause-visits c =
    rw (← c.self.view_is)
    (step_visits (step (goal.at.returns-clause-visits c).After-len) _ None _ _ refl
    c.walk-found.ensures.visits)

pub returns-in-Some-clause-fewer : goal.returns-in-Some-clause-fewer
returns-in-Some-clause-fewer c =
    rw (← c.self.view_is)
    (step_fewer (step (goal.at.returns-in-Some-clause-fewer c).After-len)
    c.self.invariant.whole.chained.placed)

pub returns-clause-fewer : goal.returns-clause-fewer
returns-clause-fewer c =
    rw (← c.self.view_is)
    (step_fewer (step (goal.at.returns-clause-fewer c).After-len)
    c.self.invariant.whole.chained.placed)

pub returns-clause-each : goal.returns-clause-each
returns-clause-each c =
    rw (← c.self.view_is)
    (step_each (step (goal.at.returns-clause-each c).After-len) _ _ _ refl
    c.in_default.ensures.each)

use Rattle.std.proofs.Common.{Some, None, arith}
use Rattle.sat_watch.proofs.WatchesLemmas.{each_none, each_on, visits_none, visits_on, propagates_refl, propagates_trans}
use Rattle.sat_watch.proofs.watches.Watches.propagate.Goals as goal

pub returns-in-Some-clause-propagates : goal.returns-in-Some-clause-propagates
returns-in-Some-clause-propagates c =
    propagates_trans c.args.self.now c.loop-self.self c.take_queued.new.self
    c.loop-self.invariant.propagates c.take_queued.ensures.propagates

pub returns-in-Some-clause-visits : goal.returns-in-Some-clause-visits
returns-in-Some-clause-visits c =
    let l = c.loop-self in let e = c.in-Some.ensures in
    visits_on c.args.self.now l.self c.take_queued.new.self (Some c.in-Some.c) e.propagates.added
    c.args.visits.now l.visits c.take_queued.new.visits
    l.invariant.propagates.clauses (c.has_queued.ensures.some c.loop-self-test.true)
    c.has_queued.ensures.queue e.propagates.trail e.front l.invariant.front l.invariant.visits
    e.visits

pub loop-self-init : goal.loop-self-init
loop-self-init c = record {
  propagates = propagates_refl c.args.self.now c.requires.quiet;
  front = omega arith;
  visits = visits_none c.args.self.now c.args.visits.now;
  counted = omega arith;
  each = each_none c.args.self.now c.args.visits.now;
}

pub loop-self-preserved : goal.loop-self-preserved
loop-self-preserved c =
    let l = c.loop-self in let e = c.in_default.ensures in
    let some = c.has_queued.ensures.some c.loop-self-test.true in
    let front = l.invariant.front in let moved = e.front in
    let queue = c.has_queued.ensures.queue in
    record {
      propagates =
          propagates_trans c.args.self.now l.self c.take_queued.new.self l.invariant.propagates
          c.take_queued.ensures.propagates;
      front = omega arith;
      visits =
          visits_on c.args.self.now l.self c.take_queued.new.self None e.propagates.added
          c.args.visits.now l.visits c.take_queued.new.visits
          l.invariant.propagates.clauses some queue e.propagates.trail e.front l.invariant.front
          l.invariant.visits e.visits;
      counted = let now = l.invariant.counted in let more = e.counted in omega arith;
      each =
          each_on c.args.self.now l.self c.take_queued.new.self e.propagates.added
          c.args.visits.now l.visits c.take_queued.new.visits some queue e.propagates.trail e.front
          l.invariant.front e.fewer l.invariant.each e.each;
    }

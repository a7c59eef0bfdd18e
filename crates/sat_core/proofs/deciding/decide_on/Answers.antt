use Rattle.std.proofs.Common.{subst, sym}
use Rattle.sat_core.specs.Deciding.{GoesOn}
use Rattle.sat_core.proofs.DecideLaws.{goes_assumed, goes_propagated, goes_then}
use Rattle.sat_core.proofs.RankingLaws.{ranked_propagated}
use Rattle.sat_core.proofs.deciding.decide_on.Goals as goal

pub returns-in-Some-clause-goes : goal.returns-in-Some-clause-goes
returns-in-Some-clause-goes c =
    goes_then c.loop-c.invariant.goes (goes_propagated c.in-Some.ensures.propagates)

pub returns-in-Some-clause-ranked : goal.returns-in-Some-clause-ranked
returns-in-Some-clause-ranked c =
    ranked_propagated c.in-Some.ensures.propagates c.loop-c.invariant.ranked

pub decide_next-requires-clause-ranked : goal.decide_next-requires-clause-ranked
decide_next-requires-clause-ranked c =
    ranked_propagated c.in_default.ensures.propagates c.loop-c.invariant.ranked

pub returns-then-not-decide_next-clause-goes : goal.returns-then-not-decide_next-clause-goes
returns-then-not-decide_next-clause-goes c =
    subst (GoesOn c.args.watches.now) (sym (c.decide_next.ensures.same c.if-not-decide_next.true))
    (goes_then c.loop-c.invariant.goes (goes_propagated c.in_default.ensures.propagates))

pub loop-c-preserved : goal.loop-c-preserved
loop-c-preserved c =
    let s = c.propagate.new.self in
    let decided = c.decide_next.ensures.decided c.if-not-decide_next.false in
    let goes : GoesOn c.args.watches.now s =
    goes_then c.loop-c.invariant.goes (goes_propagated c.in_default.ensures.propagates) in
    record {
      goes = subst (GoesOn c.args.watches.now) (sym decided.1) (goes_assumed decided.0 goes);
      ranked = c.decide_next.ensures.ranked;
    }

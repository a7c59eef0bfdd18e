use Rattle.std.proofs.Common.{rules, ◌≡◌, ◌≤◌, ◌∙◌, refl, ap, subst, arith}
use Rattle.std.specs.Prelude.{IsTrue}
use Rattle.sat_clause.specs.Learned.{added_count, deletions}
use Rattle.sat_core.specs.Underway.{IsTurn, IsUnderway}
use Rattle.sat_core.proofs.UnderwayLemmas.{left_open, refuted, searched, spent, tracked_next, underway_may, underway_next, underway_start}
use Rattle.sat_core.proofs.solving.take_turns.Given as given
use Rattle.sat_core.proofs.solving.take_turns.Goals as goal
use Rattle.sat_core.proofs.solving.take_turns.Goals.{After-delete_unless}

-- it is under way where it deleted, or did not, with as many added clauses
module _ (g : given.Over) (c : After-delete_unless g) where
  on : IsUnderway c.delete_unless.new.search c.args.formula.now.cnf c.delete_unless.new.log.steps
  on = c.delete_unless.ensures.underway c.args.formula.now.cnf c.loop.invariant.underway

  kept : IsTrue c.args.keep → deletions c.delete_unless.new.log.steps ≡ 0
  kept all = ap deletions (c.delete_unless.ensures.kept all) ∙ c.loop.invariant.kept all

pub loop-init : goal.loop-init
loop-init g c = record {
  underway = rw c.requires.fresh (underway_start c.args.search.now c.args.formula.now.cnf
      c.requires.stands c.requires.none_taken);
  tracked = rw c.requires.fresh c.new-deletions.ensures;
  kept = λ all. ap deletions c.requires.fresh;
  many = rw c.requires.fresh refl;
}

pub returns-then-not-goes_on-clause-searched : goal.returns-then-not-goes_on-clause-searched
returns-then-not-goes_on-clause-searched g c =
    let few : added_count c.loop.log.steps ≤ c.args.budget =
    omega (arith, c.loop.invariant.many, c.loop-test.true) in
    searched c.loop.invariant.underway few c.loop.invariant.kept
    (left_open c.loop.invariant.underway few)

pub returns-in_err-delete_unless-clause-searched : goal.returns-in_err-delete_unless-clause-searched
returns-in_err-delete_unless-clause-searched g c =
    let at = (goal.at.returns-in_err-delete_unless-clause-searched g c).After-delete_unless in
    searched (on g at)
    (omega (arith, c.delete_unless.ensures.none_added, c.loop.invariant.many, c.loop-test.true))
    (kept g at) (search rules)

pub turn-requires : goal.turn-requires
turn-requires g c =
    underway_may (on g (goal.at.turn-requires g c).After-delete_unless)
    (omega (
      arith,
      c.requires.ids,
      c.loop-test.true,
      c.delete_unless.ensures.none_added,
      c.loop.invariant.many,
    ))

pub returns-in_err-turn-clause-searched : goal.returns-in_err-turn-clause-searched
returns-in_err-turn-clause-searched g c =
    let at = (goal.at.returns-in_err-turn-clause-searched g c).After-delete_unless in
    rw c.in_err-turn.ensures.same
    (searched (on g at)
    (omega (arith, c.delete_unless.ensures.none_added, c.loop.invariant.many, c.loop-test.true))
    (kept g at) (search rules))

pub returns-in-Model-clause-searched : goal.returns-in-Model-clause-searched
returns-in-Model-clause-searched g c =
    let at = (goal.at.returns-in-Model-clause-searched g c).After-delete_unless in
    let says = subst (IsTurn c.turn.new.self c.args.formula.now.cnf
    c.delete_unless.new.log.steps c.turn.new.log.steps) c.in-Model.is c.in_ok-turn.ensures.turn in
    rw says.same
    (searched (on g at)
    (omega (arith, c.delete_unless.ensures.none_added, c.loop.invariant.many, c.loop-test.true))
    (kept g at) says.satisfies)

pub returns-in-Refuted-clause-searched : goal.returns-in-Refuted-clause-searched
returns-in-Refuted-clause-searched g c =
    let at = (goal.at.returns-in-Refuted-clause-searched g c).After-delete_unless in
    let says = subst (IsTurn c.turn.new.self c.args.formula.now.cnf
    c.delete_unless.new.log.steps c.turn.new.log.steps) c.in-Refuted.is c.in_ok-turn.ensures.turn in
    refuted (on g at)
    (omega (arith, c.delete_unless.ensures.none_added, c.loop.invariant.many, c.loop-test.true))
    (kept g at) says

pub loop-preserved : goal.loop-preserved
loop-preserved g c =
    let at = (goal.at.loop-preserved g c).After-delete_unless in
    let learned = subst (IsTurn c.turn.new.self c.args.formula.now.cnf
    c.delete_unless.new.log.steps c.turn.new.log.steps) c.in-Learned.is
    c.in_ok-turn.ensures.turn in
    let says = underway_next (on g at) learned in
    let then = tracked_next c.delete_unless.ensures.tracked learned in
    record {
      underway = says.0;
      tracked = then.0;
      kept = λ all. then.1 ∙ kept g at all;
      many = omega (arith, says.1, c.delete_unless.ensures.none_added, c.loop.invariant.many);
    }

pub returns-clause-searched : goal.returns-clause-searched
returns-clause-searched g c =
    let all : added_count c.loop.log.steps ≡ c.args.budget = omega
    (arith, c.loop.invariant.many, c.loop-test.false, c.loop.auto.counter-end) in
    searched c.loop.invariant.underway (omega (arith, all)) c.loop.invariant.kept
    (spent c.loop.invariant.underway all)

use Rattle.std.proofs.Common.{◌≡◌, ◌∙◌, ◌-◌, suc, arith, drop, get_or, pos, rules, sym}
use mir.Val.{SFits}
use mir.Syntax.{w64}
use Rattle.std.proofs.lemmas.Int.{to_z-of_z}
use Rattle.sat_clause.specs.Literal.{lit}
use Rattle.sat_check.specs.LiveStore.{live_at}
use Rattle.sat_merge.proofs.NeededLaws.{meeting-bare, meeting-none, meeting-some, meeting-unit}
use Rattle.sat_merge.proofs.needed.meet_back.Goals as goal

pub loop-left-init : goal.loop-left-init
loop-left-init c = record {
  size = c.requires.ready.size;
  few = omega arith;
  behind = λ clauses finds.
      rw c.requires.ready.empty (meeting-none clauses c.args.units.now c.args.hints.now);
}

-- the last hint has no unit
pub loop-left-preserved-then-left-units : goal.loop-left-preserved-then-left-units
loop-left-preserved-then-left-units c =
    let i = c.loop-left.left - 1 in
    let from : c.loop-left.left ≡ suc i = omega arith in
    let fits : SFits w64 (get_or c.args.hints.now i (pos 0)) = search rules in
    let is = simp to_z-of_z at c.in-Some.ensures.value in
    record {
      size = c.in_ok-put_all.ensures.size ∙ c.loop-left.invariant.size;
      few = omega arith;
      behind = λ clauses finds.
          let behind = rw from at (c.loop-left.invariant.behind clauses finds) in
          rw c.in_ok-put_all.ensures.ok
          (meeting-bare (live_at c.args.live.now) clauses finds c.args.hints.now i
          (omega arith) c.in-Some.clause.now is c.loop-left.met.set c.args.units.now
          c.if-left-units.true behind);
    }

pub loop-left-preserved : goal.loop-left-preserved
loop-left-preserved c =
    let i = c.loop-left.left - 1 in
    let from : c.loop-left.left ≡ suc i = omega arith in
    let fits : SFits w64 (get_or c.args.hints.now i (pos 0)) = search rules in
    let is = simp to_z-of_z at c.in-Some.ensures.value in
    let met = c.loop-left.met.set in
    let clause = c.in-Some.clause.now in
    record {
      size = c.in_ok-meet_others.ensures.size ∙ c.loop-left.invariant.size;
      few = omega arith;
      behind = λ clauses finds.
          let behind = rw from at (c.loop-left.invariant.behind clauses finds) in
          meeting-some clauses met clause c.meet_others.new.met.set (drop i c.args.units.now)
          (drop i c.args.hints.now) c.in_ok-meet_others.ensures.ok
          (meeting-unit (live_at c.args.live.now) clauses finds c.args.hints.now i
          (omega arith) clause is met c.args.units.now
          (lit (pos 0)) (omega arith)
          (rw c.negation.ensures.value at (sym c.if-not-is_false.ensures)) behind);
    }

pub returns-clause-ok : goal.returns-clause-ok
returns-clause-ok c = λ is clauses finds.
    let none : c.loop-left.left ≡ 0 = omega arith in
    rw none at (c.loop-left.invariant.behind clauses finds)

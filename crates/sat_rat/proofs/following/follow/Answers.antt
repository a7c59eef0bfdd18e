use Rattle.std.proofs.Common.{rules, ◌∙◌, ◌++◌, get_or, pos}
use mir.Val.{SFits}
use mir.Syntax.{w64}
use Rattle.std.proofs.lemmas.Int.{to_z-of_z}
use Rattle.sat_check.specs.LiveStore.{live_at}
use Rattle.sat_rat.proofs.LeadLaws.{lead_next}
use Rattle.sat_rat.proofs.following.follow.Goals as goal

pub loop-i-preserved : goal.loop-i-preserved
loop-i-preserved c = record {
  size = c.in-Ok.ensures.size ∙ c.loop-i.invariant.size;
  left = λ clauses finds end.
      let fits : SFits w64 (get_or c.args.hints.now c.loop-i.i (pos 0)) = search rules in
      let is = simp to_z-of_z at c.in-Some.ensures.value in
      rw (c.in-Ok.ensures.ok, c.negation.ensures.value)
      (lead_next (live_at c.args.live.now) clauses finds c.args.hints.now c.loop-i.i
      c.loop-i-test.true (c.loop-i.upper.set ++ c.args.lower.now.set) c.in-Some.clause.now
      c.in-Unit.l end is c.in-Unit.ensures.value ∙ c.loop-i.invariant.left clauses finds end);
}

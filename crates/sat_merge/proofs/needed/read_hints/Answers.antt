use Rattle.std.proofs.Common.{◌≡◌, ◌∙◌, ◌+◌, [], ◌∷◌, append_assoc, get_or, length, pos, rules}
use mir.Val.{SFits}
use mir.Syntax.{w64}
use Rattle.std.proofs.lemmas.Int.{to_z-of_z}
use Rattle.std.proofs.lemmas.List.{append-nil}
use Rattle.std.proofs.lemmas.List.Elements.{All-push}
use Rattle.sat_clause.specs.Literal.{IsWithin}
use Rattle.sat_check.specs.LiveStore.{live_at}
use Rattle.sat_merge.proofs.NeededLaws.{read-last, read-unit}
use Rattle.sat_merge.proofs.needed.read_hints.Goals as goal

pub returns-in-Conflict-clause-ok : goal.returns-in-Conflict-clause-ok
returns-in-Conflict-clause-ok c = λ ends clauses finds.
    let fits : SFits w64 (get_or c.args.hints.now c.loop-i.i (pos 0)) = search rules in
    let last : c.loop-i.i + 1 ≡ length c.args.hints.now = search rules in
    rw append-nil at
    (c.loop-i.invariant.left clauses finds []
    (read-last (live_at c.args.live.now) clauses finds c.args.hints.now c.loop-i.i
    c.loop-i-test.true c.in-Some.clause.now (simp to_z-of_z at c.in-Some.ensures.value)
    c.loop-i.falses.set last c.in-Conflict.ensures.value))

pub loop-i-preserved : goal.loop-i-preserved
loop-i-preserved c = record {
  size = c.in_ok-put-in-Unit.ensures.size ∙ c.loop-i.invariant.size;
  within = rw c.in_ok-push-in-Unit.ensures.items
      (All-push (IsWithin c.args.live.now.vars) c.loop-i.units.items c.in-Unit.l
      c.loop-i.invariant.within (search rules));
  left = λ clauses finds rest later.
      let fits : SFits w64 (get_or c.args.hints.now c.loop-i.i (pos 0)) = search rules in
      rw (c.in_ok-push-in-Unit.ensures.items, append_assoc)
      (c.loop-i.invariant.left clauses finds (c.in-Unit.l ∷ rest)
      (read-unit (live_at c.args.live.now) clauses finds c.args.hints.now c.loop-i.i
      c.loop-i-test.true c.in-Some.clause.now (simp to_z-of_z at c.in-Some.ensures.value)
      c.loop-i.falses.set c.in-Unit.l rest c.in-Unit.ensures.value
      (rw (c.in_ok-put-in-Unit.ensures.ok, c.negation.ensures.value) at later)));
}

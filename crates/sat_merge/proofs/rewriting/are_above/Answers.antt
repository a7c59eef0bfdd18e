use Rattle.std.proofs.Common.{rules, get_or, pos, All, subst}
use mir.Val.{SFits}
use mir.Syntax.{w64}
use Rattle.std.proofs.lemmas.Int.{to_z-of_z}
use Rattle.std.proofs.lemmas.List.{take_all}
use Rattle.std.proofs.lemmas.List.Elements.{All-more}
use Rattle.sat_core.specs.Stands.{IsAbove}
use Rattle.sat_merge.proofs.rewriting.are_above.Goals as goal

pub loop-id-preserved : goal.loop-id-preserved
loop-id-preserved c =
    let fits : SFits w64 (get_or c.args.ids.now c.loop-id.id-index (pos 0)) = search rules in
    let above = c.is_above.ensures c.if-not-is_above.false in
    All-more (IsAbove c.args.number) c.args.ids.now c.loop-id.id-index (pos 0)
    c.loop-id-test.true c.loop-id.invariant (simp to_z-of_z at above)

pub returns : goal.returns
returns c is =
    subst (All (IsAbove c.args.number))
    (take_all c.loop-id.id-index c.args.ids.now c.loop-id-test.false) c.loop-id.invariant

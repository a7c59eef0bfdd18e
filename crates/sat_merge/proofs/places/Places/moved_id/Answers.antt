use Rattle.std.proofs.Common.{◌∙◌, arith}
use mir.Val.{SFits}
use mir.Syntax.{w64}
use Rattle.std.proofs.lemmas.Int.{to_z-of_z, to_z_pos}
use Rattle.sat_merge.proofs.MovedLaws.{moved_of, place_of_moved}
use Rattle.sat_merge.proofs.places.Places.moved_id.Goals as goal

pub returns-clause-moved : goal.returns-clause-moved
returns-clause-moved c =
    let fits : SFits w64 c.args.hint = c.ranges.hint in
    to_z_pos w64 c.now_of-now.result (omega (arith, c.now_of-now.ensures.small))
    ∙ moved_of c.args.self.now c.args.hint c.now_of-now.result
    (simp to_z-of_z at c.if-hint-lt1.false) (simp to_z-of_z at c.now_of-now.ensures.now)

pub returns-clause-place : goal.returns-clause-place
returns-clause-place c =
    let fits : SFits w64 c.args.hint = c.ranges.hint in
    place_of_moved c.args.self.now c.args.hint c.now_of-now.result
    (simp to_z-of_z at c.if-hint-lt1.false) (simp to_z-of_z at c.now_of-now.ensures.now)
    c.if-now-eq0.false

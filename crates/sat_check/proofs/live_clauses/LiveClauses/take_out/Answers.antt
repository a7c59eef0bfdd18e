use Rattle.std.proofs.Common.{nat_abs}
use Rattle.std.proofs.lemmas.Int.{to_z-of_z}
use mir.Val.{SFits}
use mir.Syntax.{w64}
use Rattle.sat_check.specs.DerivedStore.{derived_at}
use Rattle.sat_check.specs.InputStore.{input_at}
use Rattle.sat_check.proofs.FinderLaws.{finds_take_out, joined_changes}
use Rattle.sat_check.proofs.live_clauses.LiveClauses.take_out.Goals as goal

pub returns-clause-live : goal.returns-clause-live
returns-clause-live c = λ found live finds.
    let fits : SFits w64 c.args.id = c.ranges.id in
    let p = c.self.inside in
    let above = simp to_z-of_z at c.if-id-le0.false in
    let inputs = simp to_z-of_z at c.take_out-was_input.ensures.live in
    let derived = simp to_z-of_z at c.take_out-was_derived.ensures.clauses in
    finds_take_out _ _ c.args.id above
    (joined_changes (input_at p.inputs) (input_at c.take_out-was_input.new.self)
    (derived_at p.derived) (derived_at c.take_out-was_derived.new.self)
    (nat_abs c.args.id) _ inputs derived) live (rw (← c.self.view_is) at finds)

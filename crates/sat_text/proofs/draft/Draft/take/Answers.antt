use Rattle.std.proofs.Common.{refl, sym, ap, ◌∙◌, to_z, w64}
use Rattle.std.proofs.lemmas.Int.{to_z-of_z}
use Rattle.sat_text.proofs.DraftLemmas.{takes_literal, takes_zero}
use Rattle.sat_text.proofs.FrontLemmas.{same_literal}
use Rattle.sat_text.proofs.draft.Draft.take.Goals as goal

pub returns-then-number-ne0 : goal.returns-then-number-ne0
returns-then-number-ne0 c =
    let same = to_z-of_z w64 c.args.number c.ranges.number in
    takes_literal c.args.self.now _ c.args.number refl refl refl
    (rw (same, same_literal c.args.number c.requires.few) at c.in-Ok.ensures.items)

pub returns : goal.returns
returns c =
    let zero = sym (to_z-of_z w64 c.args.number c.ranges.number)
    ∙ ap (to_z w64) c.if-number-ne0.false in
    rw zero (takes_zero c.args.self.now _
    (rw (c.push-2.ensures.vars, c.in-Ok-reserve.ensures.ok, c.vars-vars.ensures.value) refl) refl
    (rw (c.push-2.ensures.clauses, c.in-Ok-reserve.ensures.ok, c.deref.ensures.value) refl)
    c.clear.ensures.items)

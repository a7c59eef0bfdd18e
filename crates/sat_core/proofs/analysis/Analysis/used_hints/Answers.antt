use mir.Val.{SFits}
use mir.Syntax.{w64}
use Rattle.std.proofs.Common.{rules, ◌∙◌, ◌++◌, List, ℤ, sym, ap}
use Rattle.std.proofs.lemmas.Int.{to_z-of_z}
use Rattle.std.proofs.lemmas.List.{append-nil}
use Rattle.sat_core.specs.Reading.{hint_at}
use Rattle.sat_core.proofs.MarksLaws.{pieces_more}
use Rattle.sat_core.proofs.analysis.Analysis.used_hints.Goals as goal

pub loop-place-preserved-in_default : goal.loop-place-preserved-in_default
loop-place-preserved-in_default c =
    let hints = c.loop-place.hints.items in
    sym (append-nil hints) ∙ ap (λ (more : List ℤ). hints ++ more) c.in_default.ensures
    ∙ pieces_more (hint_at c.args.self.now.watches.now c.args.self.now.marks.now)
    c.places-place-items.result.now c.loop-place.place-index hints c.loop-place-test.true
    c.loop-place.invariant

pub loop-place-preserved : goal.loop-place-preserved
loop-place-preserved c =
    let hints = c.loop-place.hints.items in
    let fits : SFits w64 c.from.result = search rules in
    let pushed = simp to_z-of_z at c.in_ok-push.ensures.items in
    rw (pushed, c.from.ensures)
    (ap (λ (more : List ℤ). hints ++ more) c.in-Some.ensures
    ∙ pieces_more (hint_at c.args.self.now.watches.now c.args.self.now.marks.now)
    c.places-place-items.result.now c.loop-place.place-index hints c.loop-place-test.true
    c.loop-place.invariant)

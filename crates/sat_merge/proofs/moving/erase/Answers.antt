use Rattle.std.proofs.Common.{◌≡◌, ◌∙◌, ◌+◌, List, ℕ, ℤ, ap, false, sym}
use Rattle.std.specs.Prelude.{is_some}
use Rattle.sat_clause.specs.Step.{Erased}
use Rattle.sat_core.specs.Stands.{live_after}
use Rattle.sat_merge.proofs.MovingLaws.{next_moved}
use Rattle.sat_merge.proofs.moving.erase.Goals as goal

pub returns-clause-moved : goal.returns-clause-moved
returns-clause-moved c = λ is keeps formula lemmas steps moving.
    let live = live_after formula c.args.log.now.steps in
    let numbers = c.move_ids.new.numbers.items in
    let all : is_some c.erase.result ≡ false = sym c.is_some.ensures ∙ c.if-is_some.false in
    let above = rw c.inputs.ensures at (c.are_above.ensures c.if-not-are_above.false) in
    rw (c.erase-2.ensures.steps, c.deref-2.ensures.value, c.in_ok-reserve.ensures.kept)
    (next_moved moving c.erase.new.self (Erased c.args.id c.args.ids.now)
    (Erased c.in-Some.now numbers) above
    (ap (λ (n : ℕ). Erased n numbers) c.in-Some.ensures
    ∙ ap (λ (them : List ℤ). Erased (c.args.id + c.args.places.now.lemmas) them)
    (c.in_ok-move_ids.ensures.ids c.if-not-branch.false))
    (rw c.deref.ensures.value at (c.erase.ensures.live all live moving.found)))

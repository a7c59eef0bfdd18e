use Rattle.std.proofs.Common.{◌≡◌, ◌<◌, length, sym, subst, ◌∙◌}
use Rattle.fpga_types.specs.Slots.{NO_SLOT, slot_at, slot_number}
use Rattle.fpga_types.specs.declared.problem.Slot.{Slot}
use Rattle.fpga_bounds.proofs.SlotLines.{number-there}
use Rattle.fpga_bounds.proofs.SlotTableLemmas.{same_slot-is, slot_equal}
use Rattle.fpga_bounds.proofs.slot_table.SlotTable.number_near.Goals as goal

pub returns-then-eq : goal.returns-then-eq
returns-then-eq c =
    let all = c.self.inside.slots.items in let guess = c.args.guess in
    let found = c.in-Some.ensures.lookup.3 in
    let one : c.in-Some.there.now ≡ c.args.slot =
    same_slot-is c.in-Some.there.now c.args.slot
    (sym (slot_equal c.in-Some.there.now c.args.slot) ∙ sym c.eq.ensures ∙ c.if-eq.true) in
    let inside : guess < length all = rw (← c.deref.ensures.value) found.0 in
    let here : slot_at all guess ≡ c.args.slot =
    rw (← c.deref.ensures.value) (sym (found.1 NO_SLOT)) ∙ one in
    rw (← c.self.view_is)
    (sym (subst (λ (s : Slot). slot_number all s ≡ guess) here
    (number-there all c.self.invariant.once guess inside)))

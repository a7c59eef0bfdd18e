use Rattle.std.proofs.Common.{◌≡◌, length, ◌∙◌, sym, rules}
use Rattle.fpga_bounds.proofs.SlotTableLemmas.{number-found, number-none}
use Rattle.fpga_bounds.proofs.slot_table.SlotTable.slot_number.Goals as goal

pub returns-in-Some : goal.returns-in-Some
returns-in-Some c =
    rw (← c.self.view_is) (sym
    (number-found c.self.inside.slots.items c.args.slot c.in-Some.number.now
    (sym (c.self.invariant.found (record { 0 = c.args.slot })) ∙ sym c.in-Some.ensures.value)))

pub returns-in-None : goal.returns-in-None
returns-in-None c =
    let count : c.len.result ≡ length c.self.inside.slots.items = search rules in
    rw (← c.self.view_is) (count
    ∙ sym (number-none c.self.inside.slots.items c.args.slot
    (sym (c.self.invariant.found (record { 0 = c.args.slot })) ∙ sym c.in-None.ensures.value)))

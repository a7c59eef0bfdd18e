use Rattle.std.proofs.Common.{◌≡◌, ◌<◌, false, length, rules, ◌∙◌, sym}
use Rattle.std.specs.List.{list_any}
use Rattle.fpga_types.specs.Slots.{same_slot}
use Rattle.fpga_bounds.proofs.SlotTableLemmas.{numbered-more}
use Rattle.fpga_bounds.proofs.slot_table.SlotTable.add.Goals as goal

pub invariant_of-self-2 : goal.invariant_of-self-2
invariant_of-self-2 c =
    let absent : list_any (same_slot c.args.slot) c.args.self.now ≡ false =
    sym c.has.ensures ∙ c.if-has.false in
    let new : list_any (same_slot c.args.slot) c.self.inside.slots.items ≡ false =
    rw c.self.view_is absent in
    let room : length c.self.inside.slots.items < 200000 =
    rw c.self.view_is (c.requires.room absent) in
    let count : c.len-number.result ≡ length c.self.inside.slots.items = search rules in
    rw (c.push_reserved.ensures.items, c.in_ok-reserve.ensures.items)
    (numbered-more c.self.inside.slots.items c.self.inside.numbers c.insert.new.self c.args.slot
    _ c.self.invariant new room count c.in_ok-insert.ensures.updates)

use Rattle.std.proofs.Common.{◌∙◌}
use Rattle.fpga_bounds.proofs.SlotTableLemmas.{has-numbered}
use Rattle.fpga_bounds.proofs.slot_table.SlotTable.has.Goals as goal

pub returns : goal.returns
returns c = rw (← c.self.view_is)
    (c.contains_key.ensures ∙ has-numbered c.self.inside.slots.items c.self.inside.numbers
    c.args.slot c.self.invariant)

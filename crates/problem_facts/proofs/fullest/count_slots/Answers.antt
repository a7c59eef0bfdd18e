use Rattle.std.proofs.Common.{◌<◌, length, length-set, refl, ◌∙◌, arith}
use Rattle.fpga_types.specs.CellNumbers.{number_of_cell}
use Rattle.fpga_types.specs.Slots.{slot_at}
use Rattle.problem_facts.proofs.CellCountLemmas.{counted-more, few-passing, takes}
use Rattle.problem_facts.proofs.fullest.count_slots.Goals as goal

pub loop-slot-init : goal.loop-slot-init
loop-slot-init c = record { size = refl; counted = λ number low. c.requires.zeros number 0 low }

pub overflow_add-counts : goal.overflow_add-counts
overflow_add-counts c =
    let low : c.cell_number.result < length c.loop-slot.counts =
    omega (arith, c.cell_number.ensures.within, c.requires.room, c.loop-slot.invariant.size) in
    let count = c.loop-slot.invariant.counted c.cell_number.result low in
    let few = few-passing (takes c.args.grid c.args.slots.now c.cell_number.result)
    c.loop-slot.slot-index in
    omega (arith, count, few, c.loop-slot-test.true, c.requires.few)

pub loop-slot-preserved : goal.loop-slot-preserved
loop-slot-preserved c =
    let low : c.cell_number.result < length c.loop-slot.counts =
    omega (arith, c.cell_number.ensures.within, c.requires.room, c.loop-slot.invariant.size) in
    record {
      size = length-set c.loop-slot.counts _ _ ∙ c.loop-slot.invariant.size;
      counted = counted-more
          (λ s. number_of_cell c.args.grid (slot_at c.args.slots.now s).cell)
          c.loop-slot.slot-index c.cell_number.result c.loop-slot.counts
          c.loop-slot.invariant.counted c.cell_number.ensures.number low;
    }

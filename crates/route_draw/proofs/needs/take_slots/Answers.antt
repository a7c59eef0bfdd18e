use Rattle.std.proofs.Common.{arith, refl, take, length-take-le}
use Rattle.list_laws.proofs.Places.{get-there}
use Rattle.route_draw.proofs.NeedLemmas.{slots-next}
use Rattle.route_draw.proofs.needs.take_slots.Goals as goal

pub count_slot-requires : goal.count_slot-requires
count_slot-requires c = (
  take c.loop-slot.slot-index c.args.slots.now,
  let l = length-take-le c.loop-slot.slot-index c.args.slots.now
      (omega (arith, c.loop-slot-test.true)) in
      omega (arith, l, c.loop-slot-test.true, c.requires.few),
  c.loop-slot.invariant,
)

pub loop-slot-preserved : goal.loop-slot-preserved
loop-slot-preserved c =
    slots-next c.args.grid c.count_slot.new.needs c.args.slots.now c.loop-slot.slot-index _
    (c.count_slot.ensures (take c.loop-slot.slot-index c.args.slots.now) c.loop-slot.invariant)
    (get-there c.args.slots.now c.loop-slot.slot-index _ _ c.loop-slot-test.true refl)

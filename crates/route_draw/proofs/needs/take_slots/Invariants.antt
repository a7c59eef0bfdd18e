-- the slots so far were counted
use Rattle.std.proofs.Common.{take}
use Rattle.route_draw.specs.Needs.{AreNeeds, slots_in}
use Rattle.route_draw.proofs.needs.take_slots.Given as goal

abbrev pub invariant-loop-slot : goal.invariant-loop-slot
invariant-loop-slot l =
    AreNeeds l.grid (λ cell. slots_in cell (take l.slot-index l.slots)) l.needs

-- the row has the first of the slots from s on in each cell
use Rattle.route_reach.specs.FirstSlots.{AreFirst}
use Rattle.route_reach.proofs.numbers.first_slots.Given as goal

abbrev pub invariant-loop-s : goal.invariant-loop-s
invariant-loop-s l = AreFirst l.grid l.slots l.s l.first.items

use Rattle.route_ordered.proofs.CrowdSlots.{among-crowd}
use Rattle.route_ordered.proofs.laws.crowds_are_slots.Goals as goal

pub returns : goal.returns
returns c = among-crowd

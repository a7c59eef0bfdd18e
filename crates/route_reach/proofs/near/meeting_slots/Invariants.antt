-- the slots of the cells so far, rising
use Rattle.std.proofs.Common.{◌≤◌, length, take}
use Rattle.std.specs.Prelude.{filter_map}
use Rattle.route_reach.proofs.NearSlots.{IsGathered, found_in}
use Rattle.route_reach.proofs.near.meeting_slots.Given as goal

abbrev pub invariant-loop-joint : goal.invariant-loop-joint
invariant-loop-joint l = record {
  few : length l.near.items ≤ l.joint-index;
  gathered : IsGathered l.near.items
      (filter_map (found_in l.numbers l.slot) (take l.joint-index l.joint-items));
}

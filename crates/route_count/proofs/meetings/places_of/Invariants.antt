-- the slots so far have their places
use Rattle.std.proofs.Common.{◌≡◌, length}
use Rattle.route_count.specs.Meetings.{ArePlaces}
use Rattle.route_count.proofs.meetings.places_of.Given as goal

abbrev pub invariant-loop-at : goal.invariant-loop-at
invariant-loop-at l = record {
  each : length l.places.items ≡ l.count;
  places : ArePlaces l.row l.at l.places.items;
}

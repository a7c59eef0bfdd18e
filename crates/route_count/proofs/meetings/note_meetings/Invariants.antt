-- what the slots so far have is noted
use Rattle.std.proofs.Common.{◌≡◌, ◌≤◌, ◌*◌, ℕ, List, length}
use Rattle.sat_count.specs.declared.limits.TheConstants.{COUNTED_LIMIT}
use Rattle.route_count.specs.Meetings.{AreNoted, ArePlaces, KeepsOthers}
use Rattle.route_count.proofs.meetings.note_meetings.Given as goal

abbrev pub invariant-loop-s : goal.invariant-loop-s
invariant-loop-s l = record {
  each : length l.found ≡ COUNTED_LIMIT * COUNTED_LIMIT;
  noted : (row : List ℕ) → l.at ≤ length row → ArePlaces row (length row) l.places
      → AreNoted l.grid l.slots l.trees l.taken row l.at l.s l.found;
  others : KeepsOthers l.at l.initial.found l.found;
}

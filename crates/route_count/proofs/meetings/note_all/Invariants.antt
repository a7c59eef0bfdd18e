-- the meetings with the trees of the slots so far are found, and no others
use Rattle.std.proofs.Common.{◌≡◌, ◌*◌, length}
use Rattle.sat_count.specs.declared.limits.TheConstants.{COUNTED_LIMIT}
use Rattle.route_count.specs.Meetings.{AreFound, AreUnknown}
use Rattle.route_count.proofs.meetings.note_all.Given as goal

abbrev pub invariant-loop-at : goal.invariant-loop-at
invariant-loop-at l = record {
  each : length l.found ≡ COUNTED_LIMIT * COUNTED_LIMIT;
  found : AreFound l.slots l.trees l.row l.at l.found;
  unknown : AreUnknown l.at l.found;
}

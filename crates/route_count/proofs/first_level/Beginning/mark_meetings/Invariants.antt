-- the meetings of the trees so far are marked
use Rattle.std.proofs.Common.{◌≡◌, length}
use Rattle.route_count.specs.Firsts.{AreMarked}
use Rattle.route_count.proofs.first_level.Beginning.mark_meetings.Given as goal

abbrev pub invariant-loop-higher : goal.invariant-loop-higher
invariant-loop-higher l = record {
  each : length l.passed ≡ l.self.variables.slots;
  marked : AreMarked l.higher l.self.meetings.now l.passed;
}

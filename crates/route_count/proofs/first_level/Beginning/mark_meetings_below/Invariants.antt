-- the meetings of the trees before, and of this one with those so far, are marked
use Rattle.std.proofs.Common.{◌≡◌, length}
use Rattle.route_count.specs.Firsts.{AreMarked}
use Rattle.route_count.proofs.MarkLemmas.{AreMarkedAt}
use Rattle.route_count.proofs.first_level.Beginning.mark_meetings_below.Given as goal

abbrev pub invariant-loop-lower : goal.invariant-loop-lower
invariant-loop-lower l = record {
  each : length l.passed ≡ l.self.variables.slots;
  before : AreMarked l.higher l.self.meetings.now l.passed;
  here : AreMarkedAt l.higher l.lower l.self.meetings.now l.passed;
}

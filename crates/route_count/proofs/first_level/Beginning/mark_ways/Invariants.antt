-- the ways to the slots from this one on are marked
use Rattle.std.proofs.Common.{◌≡◌, length}
use Rattle.route_count.specs.Firsts.{AreClosed, KeepsMarks}
use Rattle.route_count.proofs.first_level.Beginning.mark_ways.Given as goal

abbrev pub invariant-loop-slot : goal.invariant-loop-slot
invariant-loop-slot l = record {
  each : length l.passed ≡ l.self.variables.slots;
  kept : KeepsMarks l.initial.passed l.passed;
  closed : AreClosed l.self.trees.now l.slot l.passed;
}

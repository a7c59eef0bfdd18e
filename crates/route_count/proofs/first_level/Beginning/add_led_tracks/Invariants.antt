-- the clauses of the slots so far that are passed stand
use Rattle.std.proofs.Common.{◌≡◌, length}
use Rattle.sat_count.specs.Refuting.{Grows}
use Rattle.route_count.specs.Firsts.{AreLed}
use Rattle.route_count.proofs.first_level.Beginning.add_led_tracks.Given as goal

abbrev pub invariant-loop-slot : goal.invariant-loop-slot
invariant-loop-slot l = record {
  each : length l.led ≡ l.self.variables.slots;
  grows : Grows l.initial.refutation l.refutation;
  led : AreLed l.refutation l.self.trees.now l.self.variables.width l.slot l.passed.items l.led;
}

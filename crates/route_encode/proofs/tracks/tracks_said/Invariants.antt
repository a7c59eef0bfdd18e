-- the slots so far have the tracks that the values say
use Rattle.std.proofs.Common.{◌≡◌, length}
use Rattle.route_encode.specs.Said.{AreSaid}
use Rattle.route_encode.proofs.tracks.tracks_said.Given as goal

abbrev pub invariant-loop-slot : goal.invariant-loop-slot
invariant-loop-slot l = record {
  each : length l.tracks.items ≡ l.slot;
  said : AreSaid l.values l.variables.width l.tracks.items l.slot;
}

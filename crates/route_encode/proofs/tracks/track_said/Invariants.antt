-- the values say none of the tracks so far
use Rattle.std.proofs.Common.{◌≡◌, ◌<◌, ℕ, false}
use Rattle.route_encode.specs.Said.{says}
use Rattle.route_encode.proofs.tracks.track_said.Given as goal

abbrev pub invariant-loop-track : goal.invariant-loop-track
invariant-loop-track l = (t : ℕ) → t < l.track → says l.values l.variables.width l.slot t ≡ false

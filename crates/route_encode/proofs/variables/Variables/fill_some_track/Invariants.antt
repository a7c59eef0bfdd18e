-- the tracks so far are written
use Rattle.std.proofs.Common.{◌≡◌, take}
use Rattle.std.specs.Prelude.{map}
use Rattle.route_encode.specs.Encoding.{below, has}
use Rattle.route_encode.proofs.variables.Variables.fill_some_track.Given as goal

abbrev pub invariant-loop-track : goal.invariant-loop-track
invariant-loop-track l = take l.track l.row ≡ map (has l.self.width l.slot) (below l.track)

-- none of the nets so far has another track than 0
use Rattle.std.proofs.Common.{◌≡◌, false, take}
use Rattle.route_draw.specs.Needs.{has_tracks}
use Rattle.route_draw.proofs.needs.has_tracks.Given as goal

abbrev pub invariant-loop-net : goal.invariant-loop-net
invariant-loop-net l = has_tracks (take l.net-index l.nets) ≡ false

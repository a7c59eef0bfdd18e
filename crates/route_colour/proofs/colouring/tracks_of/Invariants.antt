use Rattle.std.proofs.Common.{◌≡◌, ◌<◌, All, length}
use Rattle.route_colour.proofs.colouring.tracks_of.Given as goal

abbrev pub invariant-loop-slot : goal.invariant-loop-slot
invariant-loop-slot l =
    (length l.tracks.items ≡ l.slot) × All (λ track. track < l.width) l.tracks.items

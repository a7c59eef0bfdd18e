use Rattle.std.proofs.Common.{◌≡◌, length}
use Rattle.route_negotiate.specs.Routings.{AreWithin}
use Rattle.route_negotiate.proofs.routing.add_paths.Given as goal

-- the nets so far
abbrev pub invariant-loop-place : goal.invariant-loop-place
invariant-loop-place l =
    (length l.nets.items ≡ l.place-index) × AreWithin l.board.placement.now.grid l.width l.nets.items

-- the lines of the nets so far were taken
use Rattle.std.proofs.Common.{take}
use Rattle.route_draw.specs.Needs.{AreNeeds, lines_of, most_asked}
use Rattle.route_draw.proofs.needs.take_nets.Given as goal

abbrev pub invariant-loop-net : goal.invariant-loop-net
invariant-loop-net l =
    AreNeeds l.grid (λ cell. most_asked cell (lines_of (take l.net-index l.nets))) l.needs

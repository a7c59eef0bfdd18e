-- the names are those of the nets so far
use Rattle.std.proofs.Common.{take}
use Rattle.route_picture.specs.Blame.{AreNames}
use Rattle.route_picture.proofs.blame.names_of.Given as goal

abbrev pub invariant-loop-net : goal.invariant-loop-net
invariant-loop-net l = AreNames (take l.net-index l.nets) l.names

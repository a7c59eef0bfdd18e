-- the lines of the nets so far stand there
use Rattle.std.proofs.Common.{◌≡◌, take}
use Rattle.route_ways.specs.Trimming.{net_lines}
use Rattle.route_ways.proofs.trimming.net_lines.Given as goal

abbrev pub invariant-loop-position : goal.invariant-loop-position
invariant-loop-position l = l.lines.items ≡ net_lines l.route (take l.position-index l.nets)

use Rattle.std.proofs.Common.{◌≡◌, take}
use Rattle.std.specs.Prelude.{map}
use Rattle.std.specs.List.{enumerate_from}
use Rattle.route_gen.specs.Routes.{route_net}
use Rattle.route_gen.proofs.route.route_nets.Given as goal

abbrev pub invariant-loop-net : goal.invariant-loop-net
invariant-loop-net l = l.nets.items ≡ map (route_net l.side) (take l.net (enumerate_from 0 l.sinks))

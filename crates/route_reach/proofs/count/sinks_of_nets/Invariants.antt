-- the sinks of the nets so far
use Rattle.std.proofs.Common.{◌≡◌, length, take}
use Rattle.std.specs.Prelude.{sum_by}
use Rattle.fpga_types.specs.declared.route.RouteNet.{RouteNet}
use Rattle.route_reach.specs.Ends.{ins}
use Rattle.route_reach.proofs.count.sinks_of_nets.Given as goal

abbrev pub invariant-loop-net : goal.invariant-loop-net
invariant-loop-net l =
    l.count ≡ sum_by (λ (net : RouteNet). length (ins net)) (take l.net-index l.nets)

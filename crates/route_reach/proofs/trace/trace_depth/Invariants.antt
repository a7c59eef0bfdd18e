use Rattle.std.proofs.Common.{◌≡◌, take}
use Rattle.std.specs.Prelude.{flat_map}
use Rattle.route_reach.specs.TraceDepth.{greatest, net_depths}
use Rattle.route_reach.proofs.trace.trace_depth.Given as goal

abbrev pub invariant-loop-net : goal.invariant-loop-net
invariant-loop-net l =
    l.greatest ≡ greatest (flat_map net_depths (take l.net-index l.problem.route.nets))

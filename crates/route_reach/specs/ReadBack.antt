-- Routes that are routings within a reach, printed and read again.
use Rattle.std.specs.Prelude.{ℕ}
use Rattle.fpga_route.specs.ReadBack.{IsPrintable, ReadsBack}
use Rattle.fpga_types.specs.Problem.{RoutingProblem}
use Rattle.fpga_types.specs.declared.route.RouteText.{RouteText}
use Rattle.route_reach.specs.Good.{IsReachRoute}

-- where the global route can be printed, so can a route that counts within the reach, and its
-- printed form reads back
abbrev pub RoutesReadBack : (width reach : ℕ) → RoutingProblem → Type 0
RoutesReadBack width reach p = IsPrintable p.route → (found : RouteText)
    → IsReachRoute width reach p found → IsPrintable found × ReadsBack found

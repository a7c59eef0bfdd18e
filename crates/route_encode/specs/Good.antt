-- The routes that a model may be decoded to.
use Rattle.std.specs.Prelude.{◌≡◌, ℕ}
use Rattle.fpga_types.specs.Legal.{route_of, tracks_of}
use Rattle.fpga_types.specs.Problem.{RoutingProblem}
use Rattle.fpga_types.specs.declared.route.RouteText.{RouteText}
use Rattle.route_encode.specs.Exact.{IsLegalRouting}

-- the route is the global one of the problem with the tracks of a legal routing, which are those
-- that it shows
pub record IsRoutingOf (width : ℕ) (p : RoutingProblem) (found : RouteText) : Type 0 where
  pub is : found ≡ route_of p.route (tracks_of p.route found)
  pub legal : IsLegalRouting width p (tracks_of p.route found)

-- The global route of a generated problem.
use Rattle.std.specs.Prelude.{ℕ, false, List, [], map}
use Rattle.std.specs.List.{enumerate_from}
use Rattle.fpga_route.specs.Printed.{printed}
use Rattle.fpga_text.specs.Bytes.{Bytes}
use Rattle.fpga_types.specs.declared.route.RouteNet.{RouteNet}
use Rattle.fpga_types.specs.declared.route.RouteText.{RouteText}
use Rattle.route_gen.specs.Draws.{location_of, sinks_of}
use Rattle.route_gen.specs.Netlists.{net_name}
use Rattle.route_gen.specs.Traces.{trace}
use Rattle.route_gen.specs.declared.draws.Sink.{Sink}

-- the route of a net, by its number and its sink
abbrev pub route_net : (side : ℕ) → ℕ × Sink → RouteNet
route_net side net = record {
  k = net.0;
  name = net_name net.0;
  global = false;
  line = 0;
  elems = trace (location_of side net.0) (location_of side net.1.block) net.1.pin;
  kept = [];
}

-- the routes of nets to their sinks
abbrev pub route_nets : (side : ℕ) → List Sink → List RouteNet
route_nets side sinks = map (route_net side) (enumerate_from 0 sinks)

-- the route of nets on an array of this side
abbrev pub route_to : (side : ℕ) → List Sink → RouteText
route_to side sinks = record {
  grid = record { nx = side; ny = side };
  grid_line = 0;
  lines = 0;
  nets = route_nets side sinks;
}

-- the route that a seed gives, printed
abbrev pub generated_route : (seed side nets : ℕ) → Bytes
generated_route seed side nets = printed (route_to side (sinks_of seed side nets))

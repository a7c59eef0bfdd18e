-- Routes and tracks that are routings within a reach.
use Rattle.std.specs.Prelude.{ℕ, ◌≤◌, List, length, map, filter_map}
use Rattle.fpga_types.specs.Legal.{wire_of}
use Rattle.fpga_types.specs.Problem.{RoutingProblem}
use Rattle.fpga_types.specs.Slots.{first_seen, slots}
use Rattle.fpga_types.specs.declared.grid.Wire.{Wire}
use Rattle.fpga_types.specs.declared.route.RouteNet.{RouteNet}
use Rattle.fpga_types.specs.declared.route.RouteText.{RouteText}
use Rattle.sat_clause.specs.Formula.{IsUnsat}
use Rattle.route_encode.specs.Encoding.{below}
use Rattle.route_encode.specs.Exact.{IsLegalRouting, IsUnroutableAt}
use Rattle.route_reach.specs.Encoding.{reach_cnf, slots_in}
use Rattle.route_reach.specs.Exact.{IsUnreachableAt}
use Rattle.route_reach.specs.Good.{IsReachRoute}
use Rattle.route_reach.specs.Reach.{IsReachLegal}
use Rattle.route_reach.specs.TraceDepth.{trace_depth}
use Rattle.route_verify.specs.Wiring.{elem_wire, same_wire}

-- the wires of the channel lines of a net, each once
abbrev pub wires_of : RouteNet → List Wire
wires_of net = first_seen same_wire (filter_map elem_wire net.elems)

-- of a route that counts within a reach, the wires of each net are a routing within it
abbrev pub RoutesSayReached : (width reach : ℕ) → RoutingProblem → Type 0
RoutesSayReached width reach p =
    (found : RouteText) → IsReachRoute width reach p found
    → IsReachLegal width reach p (map wires_of found.nets)

-- the wires of the slots of each net, where each slot has a track
abbrev pub slot_wires : RoutingProblem → List ℕ → List (List Wire)
slot_wires p tracks =
    map (λ n. map (wire_of (slots p.route) tracks) (slots_in (slots p.route) n))
    (below (length p.route.nets))

-- of a legal routing, these are a routing within each reach from the depth of the trace on
abbrev pub TracksSayReached : (width reach : ℕ) → RoutingProblem → Type 0
TracksSayReached width reach p =
    (tracks : List ℕ) → IsLegalRouting width p tracks → trace_depth p.route ≤ reach
    → IsReachLegal width reach p (slot_wires p tracks)

-- where no values satisfy the clauses, no route counts within the reach
abbrev pub UnsatSaysNoRoute : (width reach : ℕ) → RoutingProblem → Type 0
UnsatSaysNoRoute width reach p = IsUnsat (reach_cnf width reach p)
    → (found : RouteText) → ¬ IsReachRoute width reach p found

-- where there is none within a reach, from the depth of the trace on, there is none without one
abbrev pub ReachCoversStrict : (width reach : ℕ) → RoutingProblem → Type 0
ReachCoversStrict width reach p = trace_depth p.route ≤ reach → IsUnreachableAt width reach p
    → IsUnroutableAt width p

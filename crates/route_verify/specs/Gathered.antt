-- The causes against the lines of a routed file from one on.
use Rattle.std.specs.Prelude.{ℕ, List, map, flat_map, drop}
use Rattle.fpga_bounds.specs.NetFit.{line_at}
use Rattle.fpga_types.specs.Fit.{RouteLine, net_lines, splits}
use Rattle.fpga_types.specs.declared.route.RouteNet.{RouteNet}
use Rattle.route_verify.specs.AllCauses.{causes_at}
use Rattle.route_verify.specs.Judge.{JudgedProblem}
use Rattle.route_verify.specs.Rules.{JudgedNet}
use Rattle.route_verify.specs.declared.line_cause.LineCause.{LineCause}

-- the problem of a net, at its number of tracks and reach
abbrev pub problem_of : JudgedNet → JudgedProblem
problem_of net = record { problem = net.problem; width = net.width; reach = net.reach }

-- against a line, by a problem, a number of tracks and a reach
abbrev pub causes_by : JudgedProblem → RouteLine → List LineCause
causes_by j line = causes_at j.reach j.width j.problem line

-- against the lines of a net behind these, from this element on
abbrev pub elems_causes : JudgedProblem → List RouteNet → RouteNet → ℕ → List LineCause
elems_causes j earlier net i =
    flat_map (causes_by j) (map (line_at earlier net) (drop i (splits net.elems)))

-- against the lines of the nets from this position on
abbrev pub nets_causes : JudgedProblem → List RouteNet → ℕ → List LineCause
nets_causes j nets n =
    flat_map (causes_by j) (flat_map (λ s. net_lines s.0 s.1) (drop n (splits nets)))

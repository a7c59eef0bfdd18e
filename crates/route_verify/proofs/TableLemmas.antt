-- The one table of causes, with a reach and without one.
use Rattle.std.proofs.Common.{◌≡◌, ℕ, Option, Some, None, List, refl}
use Rattle.fpga_bounds.specs.NetFit.{head_line}
use Rattle.fpga_text.specs.Codes.{first_code}
use Rattle.fpga_types.specs.Fit.{RouteLine, line_number}
use Rattle.fpga_types.specs.Problem.{RoutingProblem}
use Rattle.fpga_types.specs.declared.route.RouteNet.{RouteNet}
use Rattle.route_verify.specs.Judged.{graph_of, line_cause}
use Rattle.route_verify.specs.Reach.{causes_within, line_cause_by, reach_line}

-- it has the cause against each line
pub table-is : (reach : Option ℕ) (width : ℕ) (p : RoutingProblem) (line : RouteLine)
    → first_code (causes_within reach) (graph_of width p) (line_number line) (reach_line p line)
    ≡ line_cause_by reach width p line
table-is None width p line = refl
table-is (Some reach) width p line = refl

-- against a Net line there is the same
pub head-by : (reach : Option ℕ) (width : ℕ) (p : RoutingProblem) (earlier : List RouteNet)
    (net : RouteNet)
    → line_cause_by reach width p (head_line earlier net)
    ≡ line_cause width p (head_line earlier net)
head-by None width p earlier net = refl
head-by (Some reach) width p earlier net = refl

-- What the nets of a routed file are judged by, and what is kept of the lines before one.
use Rattle.std.specs.Prelude.{◌≡◌, ℕ, List, [], ◌∷◌, ◌++◌, Option, true}
use Rattle.fpga_bounds.specs.NetFit.{nets_faults}
use Rattle.fpga_graph.specs.GraphOf.{GraphOf}
use Rattle.fpga_text.specs.FirstFault.{Faults}
use Rattle.fpga_types.specs.Problem.{RoutingProblem}
use Rattle.fpga_types.specs.declared.grid.Wire.{Wire}
use Rattle.fpga_types.specs.declared.netlist.Net.{Net}
use Rattle.fpga_types.specs.declared.route.Elem.{Elem}
use Rattle.fpga_types.specs.declared.route.RouteNet.{RouteNet}
use Rattle.fpga_types.specs.declared.route.RouteText.{RouteText}
use Rattle.route_verify.specs.Judged.{end_cause, graph_of}
use Rattle.route_verify.specs.LineDepths.{HasTaken}
use Rattle.route_verify.specs.Lines.{has_wire, is_wire_of}
use Rattle.route_verify.specs.Reach.{line_cause_by}
use Rattle.route_verify.specs.Wires.{is_kept}
use Rattle.route_verify.specs.declared.kept.Kept.{Kept}

-- a problem, a number of tracks, and a reach if there is one
pub record JudgedProblem : Type 0 where
  pub problem : RoutingProblem
  pub width : ℕ
  pub reach : Option ℕ

-- the fabric, the nets of the netlist and the nets of the global route are those of the problem
pub record IsJudge (p : RoutingProblem) (g : GraphOf) (names : List Net) (traces : List RouteNet)
    : Type 0 where
  pub fabric : g ≡ graph_of g.width p
  pub names_are : names ≡ p.netlist.nets
  pub traces_are : traces ≡ p.route.nets

-- these are the wires of the nets, and the wires and depths of the lines
pub record HasKept (kept : Kept) (nets : List RouteNet) (lines : List Elem) : Type 0 where
  pub taken : (wire : Wire) → is_kept kept.taken wire ≡ is_wire_of nets wire
  pub wires : (wire : Wire) → is_kept kept.wires wire ≡ has_wire lines wire
  pub tracked : kept.depths.tracked ≡ true
  pub depths : HasTaken kept.depths lines

-- the causes against a routed file behind its array line, with a reach or without one
abbrev pub lines_causes : Option ℕ → (width : ℕ) → RoutingProblem → RouteText → Faults
lines_causes reach width p found =
    nets_faults (line_cause_by reach width p) found.nets 0 ++ end_cause p found ∷ []

-- What the nets of a routed file are judged by, and what is kept of the lines before one.
use Rattle.std.specs.Prelude.{◌≡◌, ℕ, Bool, List, [], ◌∷◌, ◌++◌}
use Rattle.fpga_bounds.specs.NetFit.{nets_faults}
use Rattle.fpga_graph.specs.GraphOf.{GraphOf}
use Rattle.fpga_text.specs.FirstFault.{Faults}
use Rattle.fpga_types.specs.Problem.{RoutingProblem}
use Rattle.fpga_types.specs.declared.grid.Wire.{Wire}
use Rattle.fpga_types.specs.declared.netlist.Net.{Net}
use Rattle.fpga_types.specs.declared.route.Elem.{Elem}
use Rattle.fpga_types.specs.declared.route.RouteNet.{RouteNet}
use Rattle.route_judge.specs.Judged.{placed_line_cause}
use Rattle.route_judge.specs.declared.kept.Kept.{Kept}
use Rattle.route_verify.specs.Judged.{end_cause, graph_of}
use Rattle.route_verify.specs.Lines.{has_wire, is_wire_of}
use Rattle.route_verify.specs.Wires.{is_kept}

-- a problem whose route is the file, and a number of tracks; `strict` where each net may have one
-- wire of a cell alone
pub record PlacedFile : Type 0 where
  pub problem : RoutingProblem
  pub width : ℕ
  pub strict : Bool

-- the fabric and the nets of the netlist are those of the problem
pub record IsJudge (p : RoutingProblem) (g : GraphOf) (names : List Net) : Type 0 where
  pub fabric : g ≡ graph_of g.width p
  pub names_are : names ≡ p.netlist.nets

-- these are the wires of the nets, and those of the lines
pub record HasKept (kept : Kept) (nets : List RouteNet) (lines : List Elem) : Type 0 where
  pub taken : (wire : Wire) → is_kept kept.taken wire ≡ is_wire_of nets wire
  pub wires : (wire : Wire) → is_kept kept.wires wire ≡ has_wire lines wire

-- the causes against the route of a problem behind its array line
abbrev pub lines_causes : (strict : Bool) (width : ℕ) → RoutingProblem → Faults
lines_causes strict width p =
    nets_faults (placed_line_cause strict width p) p.route.nets 0 ++ end_cause p p.route ∷ []

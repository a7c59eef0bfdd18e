-- How a routed file is judged as a routing of a placement, with no cells given beforehand: the
-- causes against each of its lines, each apart from the others, and the first that there is.
use Rattle.std.specs.Prelude.{ℕ, Bool, List, [], ◌∷◌, ◌++◌, map, Option, if◌then◌else◌}
use Rattle.fpga_graph.specs.GraphOf.{GraphOf}
use Rattle.fpga_text.specs.Codes.{At, LineCode, first_code}
use Rattle.fpga_text.specs.FirstFault.{Faults, first_fault}
use Rattle.fpga_text.specs.declared.fault.TextFault.{TextFault}
use Rattle.fpga_types.specs.Fit.{RouteLine, line_number, route_lines}
use Rattle.fpga_types.specs.Problem.{PlacedNetlist, RoutingProblem, problem_of}
use Rattle.fpga_types.specs.declared.route.RouteText.{RouteText}
use Rattle.route_verify.specs.Causes.{number_of}
use Rattle.route_verify.specs.Judged.{array_cause, end_cause, graph_of, judgement_by}
use Rattle.route_verify.specs.Lines.{JudgedLine, is_too_high, is_unconnected, is_unfit, judged_line, repeats_cell}
use Rattle.route_verify.specs.Reach.{repeats_wire}
use Rattle.route_verify.specs.declared.cause.Cause.TheVariants.{MissingSink, NotConnected, PastWidth, RepeatedCell, SharedWire, Unfit}
use Rattle.route_verify.specs.declared.judgement.Judgement.{Judgement}

-- the problem of a placed netlist with this file as its route
abbrev pub problem_with : PlacedNetlist → RouteText → RoutingProblem
problem_with placed found = problem_of placed.arch placed.netlist placed.placement found

-- a channel line that may not stand here again: where each net has one wire of a cell, by its
-- cell; else by its wire
abbrev pub repeats_where : (strict : Bool) → JudgedLine → Bool
repeats_where strict at = if strict then repeats_cell at else repeats_wire at

-- the causes against a Net or element line, least first
abbrev pub placed_causes : (strict : Bool) → List (LineCode GraphOf JudgedLine)
placed_causes strict = At (number_of NotConnected) is_unconnected
    ∷ At (number_of PastWidth) is_too_high
    ∷ At (number_of SharedWire) (λ g at. at.wire_taken)
    ∷ At (number_of RepeatedCell) (λ g at. repeats_where strict at)
    ∷ At (number_of MissingSink) (λ g at. at.fit.lacking) ∷ At (number_of Unfit) is_unfit ∷ []

-- the least cause against a Net or element line, if there is one
abbrev pub placed_line_cause : (strict : Bool) (width : ℕ) → RoutingProblem → RouteLine
    → Option TextFault
placed_line_cause strict width p line =
    first_code (placed_causes strict) (graph_of width p) (line_number line) (judged_line p line)

-- the least cause against each line of the route of a problem, if there is one: against the array
-- line, each Net and element line in their order, and the end
abbrev pub placed_route_causes : (strict : Bool) (width : ℕ) → RoutingProblem → Faults
placed_route_causes strict width p =
    array_cause p p.route ∷ map (placed_line_cause strict width p) (route_lines p.route)
    ++ end_cause p p.route ∷ []

-- how the file is judged; `strict` where each net may have one wire of a cell alone
abbrev pub placed_judged : (strict : Bool) (width : ℕ) → PlacedNetlist → RouteText → Judgement
placed_judged strict width placed found =
    judgement_by (first_fault (placed_route_causes strict width (problem_with placed found)))

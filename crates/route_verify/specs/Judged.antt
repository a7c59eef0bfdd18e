-- How a routed file is judged against the problem of its global route: the causes against each of
-- its lines, each apart from the others, and the first that there is.
use Rattle.std.specs.Prelude.{ℕ, ◌+◌, List, [], ◌∷◌, ◌++◌, map, Option, None, Some, if◌then◌else◌}
use Rattle.fpga_graph.specs.GraphOf.{GraphOf}
use Rattle.fpga_text.specs.Codes.{At, LineCode, first_code}
use Rattle.fpga_text.specs.FirstFault.{Faults, first_fault}
use Rattle.fpga_text.specs.declared.fault.TextFault.{TextFault}
use Rattle.fpga_text.specs.declared.fault.TextFault.TheVariants.{Bad, Limit, Memory}
use Rattle.fpga_types.specs.Fit.{RouteLine, line_number, route_lines}
use Rattle.fpga_types.specs.Fits.{lacks_net, same_size}
use Rattle.fpga_types.specs.Problem.{RoutingProblem}
use Rattle.fpga_types.specs.declared.route.RouteText.{RouteText}
use Rattle.route_verify.specs.Causes.{number_of}
use Rattle.route_verify.specs.Lines.{JudgedLine, is_too_high, is_unconnected, is_unfit, judged_line, repeats_cell}
use Rattle.route_verify.specs.declared.cause.Cause.TheVariants.{MissingSink, NotConnected, OffTrace, PastWidth, RepeatedCell, SharedWire, Unfit}
use Rattle.route_verify.specs.declared.judgement.Judgement.{Judgement}
use Rattle.route_verify.specs.declared.judgement.Judgement.TheVariants.{Legal, NotLegal}

-- the causes against a Net or element line, least first
abbrev pub line_causes : List (LineCode GraphOf JudgedLine)
line_causes = At (number_of NotConnected) is_unconnected ∷ At (number_of PastWidth) is_too_high
    ∷ At (number_of SharedWire) (λ g at. at.wire_taken)
    ∷ At (number_of OffTrace) (λ g at. at.stray)
    ∷ At (number_of RepeatedCell) (λ g at. repeats_cell at)
    ∷ At (number_of MissingSink) (λ g at. at.fit.lacking) ∷ At (number_of Unfit) is_unfit ∷ []

-- the fabric of a problem, with so many tracks a channel
abbrev pub graph_of : ℕ → RoutingProblem → GraphOf
graph_of width p = record { arch = p.arch; grid = p.route.grid; width = width }

-- the least cause against a Net or element line, if there is one
abbrev pub line_cause : ℕ → RoutingProblem → RouteLine → Option TextFault
line_cause width p line =
    first_code line_causes (graph_of width p) (line_number line) (judged_line p line)

-- the cause against the array line, if there is one: the array is another than the placement's
abbrev pub array_cause : RoutingProblem → RouteText → Option TextFault
array_cause p found = if same_size p.placement.grid found.grid then None
    else Some (Bad found.grid_line (number_of Unfit))

-- the cause against the end, which stands behind the last line, if there is one: a net that is not
-- global has no Net line
abbrev pub end_cause : RoutingProblem → RouteText → Option TextFault
end_cause p found = if lacks_net (record p { route = found })
    then Some (Bad (found.lines + 1) (number_of MissingSink)) else None

-- the least cause against each line, if there is one: against the array line, each Net and element
-- line in their order, and the end
abbrev pub causes : ℕ → RoutingProblem → RouteText → Faults
causes width p found =
    array_cause p found ∷ map (line_cause width p) (route_lines found) ++ end_cause p found ∷ []

-- legal where there is no cause; else not, by the first of them
abbrev pub judgement_by : Option TextFault → Judgement
judgement_by None = Legal
judgement_by (Some (Bad line cause)) = NotLegal line cause
judgement_by (Some (Limit cause count)) = Legal
judgement_by (Some Memory) = Legal

-- how the routed file is judged
abbrev pub judged : ℕ → RoutingProblem → RouteText → Judgement
judged width p found = judgement_by (first_fault (causes width p found))

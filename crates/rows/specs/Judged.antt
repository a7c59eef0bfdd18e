-- The line that a routed text is answered by.
use Rattle.std.specs.Prelude.{ℕ, ◌++◌, Option, None, Some, codes, decimal}
use Rattle.fpga_route.specs.Codes.{route_faults}
use Rattle.fpga_route.specs.Value.{route_value}
use Rattle.fpga_text.specs.Bytes.{Bytes}
use Rattle.fpga_text.specs.FirstFault.{first_fault}
use Rattle.fpga_text.specs.declared.fault.TextFault.{TextFault}
use Rattle.fpga_types.specs.Problem.{RoutingProblem, placed_netlist_of}
use Rattle.fpga_types.specs.declared.route.RouteText.{RouteText}
use Rattle.rows.specs.declared.problems.judgements.answer.Manner.{Manner}
use Rattle.rows.specs.declared.problems.judgements.answer.Manner.TheVariants.{Placed, Within}
use Rattle.route_judge.specs.Judged.{placed_judged}
use Rattle.route_verify.specs.Reach.{judged_by}
use Rattle.route_verify.specs.declared.judgement.Judgement.{Judgement}
use Rattle.route_verify.specs.declared.judgement.Judgement.TheVariants.{Legal, NotLegal}

-- a judgement
abbrev pub judgement_line : Judgement → Bytes
judgement_line Legal = codes "legal"
judgement_line (NotLegal line cause) =
    codes "not legal: line " ++ (decimal line ++ (codes " cause " ++ decimal cause))

-- how a text with this first fault is answered, if it has one, where without one it is judged so
abbrev pub line_of : Option TextFault → Judgement → Bytes
line_of None judgement = judgement_line judgement
line_of (Some fault) judgement = codes "no route"

-- how a route is judged against the problem in this manner
abbrev pub judged_in : Manner → (width : ℕ) → RoutingProblem → RouteText → Judgement
judged_in (Within reach) width p found = judged_by reach width p found
judged_in (Placed strict) width p found = placed_judged strict width (placed_netlist_of p) found

-- how a routed text is judged so
abbrev pub answer_line : Manner → (width : ℕ) → RoutingProblem → (routed : Bytes) → Bytes
answer_line manner width p routed =
    line_of (first_fault (route_faults routed)) (judged_in manner width p (route_value routed))

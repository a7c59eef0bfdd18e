-- What there is against a line of a routed file is a cause, and no limit.
use Rattle.std.proofs.Common.{ℕ, ◌+◌, Bool, List, [], ◌∷◌, Option, None, sym, subst}
use Rattle.std.specs.Prelude.{map}
use Rattle.std.specs.Option.{option_or}
use Rattle.fpga_graph.specs.GraphOf.{GraphOf}
use Rattle.fpga_text.specs.Codes.{first_code}
use Rattle.fpga_text.specs.FirstFault.{first_fault}
use Rattle.fpga_text.specs.declared.fault.TextFault.{TextFault}
use Rattle.fpga_text.proofs.FaultLemmas.{first_fault-append}
use Rattle.fpga_types.specs.Fit.{RouteLine, line_number, route_lines}
use Rattle.fpga_types.specs.Fits.{lacks_net, same_size}
use Rattle.fpga_types.specs.Problem.{RoutingProblem}
use Rattle.route_judge.specs.Judged.{placed_causes, placed_line_cause, placed_route_causes, repeats_where}
use Rattle.route_verify.specs.Judged.{array_cause, end_cause, graph_of}
use Rattle.route_verify.specs.Lines.{JudgedLine, is_too_high, is_unconnected, is_unfit, judged_line}
use Rattle.route_verify.proofs.LimitLemmas.{IsCause, first-or-later, none-or-this, this-or-rest}

-- against a line by the table of causes
by-table : (strict : Bool) (g : GraphOf) (n : ℕ) (at : JudgedLine)
    → IsCause (first_code (placed_causes strict) g n at)
by-table strict g n at =
    this-or-rest (is_unconnected g at) n 801 _ (this-or-rest (is_too_high g at) n 802 _
    (this-or-rest at.wire_taken n 803 _ (this-or-rest (repeats_where strict at) n 805 _
    (this-or-rest at.fit.lacking n 806 _ (this-or-rest (is_unfit g at) n 807 None tt)))))

module _ (strict : Bool) (width : ℕ) (p : RoutingProblem) where
  lines-are : (lines : List RouteLine)
      → IsCause (first_fault (map (placed_line_cause strict width p) lines))
  lines-are [] = tt
  lines-are (line ∷ lines) = first-or-later (placed_line_cause strict width p line)
      (first_fault (map (placed_line_cause strict width p) lines))
      (by-table strict (graph_of width p) (line_number line) (judged_line p line))
      (lines-are lines)

  pub first-is-cause : IsCause (first_fault (placed_route_causes strict width p))
  first-is-cause =
      let lines : List (Option TextFault) = map (placed_line_cause strict width p)
      (route_lines p.route) in
      let end : IsCause (end_cause p p.route) = this-or-rest (lacks_net p) (p.route.lines + 1) 806
      None tt in
      let behind : IsCause (option_or (first_fault lines) (option_or (end_cause p p.route) None)) =
      first-or-later (first_fault lines) (option_or (end_cause p p.route) None)
      (lines-are (route_lines p.route)) (first-or-later (end_cause p p.route) None end tt) in
      first-or-later (array_cause p p.route) _
      (none-or-this (same_size p.placement.grid p.route.grid) p.route.grid_line 807)
      (subst IsCause (sym (first_fault-append lines (end_cause p p.route ∷ []))) behind)

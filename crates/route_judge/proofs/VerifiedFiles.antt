-- What `verify` takes is judged legal: a routed file within the cells of a global route that fits.
use Rattle.std.proofs.Common.{◌≡◌, ℕ, Bool, true, false, Some, None, sym, ap, subst, ◌∙◌}
use Rattle.std.specs.Prelude.{map}
use Rattle.fpga_text.specs.Codes.{first_code}
use Rattle.fpga_text.specs.FirstFault.{first_fault}
use Rattle.fpga_types.specs.Fit.{RouteLine, line_number, route_lines}
use Rattle.fpga_types.specs.Fits.{Fits, array_fault, end_fault, net_line_fault, same_size}
use Rattle.fpga_types.specs.Problem.{RoutingProblem, placed_netlist_of}
use Rattle.fpga_types.specs.Size.{Size}
use Rattle.fpga_types.specs.declared.route.RouteText.{RouteText}
use Rattle.route_judge.specs.Judged.{placed_causes, placed_judged, placed_line_cause, problem_with}
use Rattle.route_judge.proofs.LineCauses.{HasNoCause, from-parts, parts-of, passed, uncaused}
use Rattle.route_judge.proofs.NetRoutings.{same_size-is}
use Rattle.route_verify.specs.Judged.{array_cause, causes, end_cause, graph_of, judged, judgement_by, line_cause, line_causes}
use Rattle.route_verify.specs.Lines.{judged_line}
use Rattle.route_verify.specs.Reach.{causes_by, line_cause_by, reach_causes, reach_judged, reach_line}
use Rattle.route_verify.specs.declared.judgement.Judgement.TheVariants.{Legal}
use Rattle.route_verify.proofs.CodeLemmas.{faultless-each, faultless-lines, silent-codes}
use Rattle.route_verify.proofs.LimitLemmas.{first-is-cause, legal-exactly}

module _ (width : ℕ) (p : RoutingProblem) (fits : Fits p) (found : RouteText) where
  abbrev own : RoutingProblem
  own = problem_with (placed_netlist_of p) found

  module _ (array : array_cause p found ≡ None) where
    grids : p.route.grid ≡ found.grid
    grids =
        let fit = parts-of (array_fault p) (end_fault p)
        (map (net_line_fault p) (route_lines p.route)) fits in
        sym (same_size-is p.placement.grid p.route.grid
        (passed (same_size p.placement.grid p.route.grid) p.route.grid_line 501 fit.0))
        ∙ same_size-is p.placement.grid found.grid
        (passed (same_size p.placement.grid found.grid) found.grid_line 807 array)

    -- a line without a cause in the cells has none here
    moved : (strict : Bool) (line : RouteLine) → HasNoCause strict (graph_of width p)
        (judged_line p line) → placed_line_cause strict width own line ≡ None
    moved strict line none =
        subst (λ (grid : Size). first_code (placed_causes strict)
        (record { arch = p.arch; grid = grid; width = width }) (line_number line)
        (judged_line p line) ≡ None) grids
        (uncaused strict (graph_of width p) (judged_line p line) (line_number line) none)

  pub verified : judged width p found ≡ Legal
      → placed_judged true width (placed_netlist_of p) found ≡ Legal
  verified legal =
      let clean = (legal-exactly (first_fault (causes width p found))
      (first-is-cause None width p found)).0 legal in
      let parts = parts-of (array_cause p found) (end_cause p found)
      (map (line_cause width p) (route_lines found)) clean in
      ap judgement_by (from-parts (array_cause own found) (end_cause own found)
      (map (placed_line_cause true width own) (route_lines found)) parts.0
      (faultless-lines (placed_line_cause true width own) (route_lines found) (λ line among.
      let silent = silent-codes (graph_of width p) (judged_line p line) line_causes
      (line_number line)
      (faultless-each (line_cause width p) (route_lines found) parts.1 line among) in
      moved parts.0 true line (record {
        connected = silent.0;
        low = silent.1.0;
        alone = silent.1.1.0;
        new = silent.1.1.1.1.0;
        whole = silent.1.1.1.1.1.0;
        fine = silent.1.1.1.1.1.1.0;
      })))
      parts.2)

  pub verified-within : (reach : ℕ) → reach_judged width reach p found ≡ Legal
      → placed_judged false width (placed_netlist_of p) found ≡ Legal
  verified-within reach legal =
      let clean = (legal-exactly (first_fault (causes_by (Some reach) width p found))
      (first-is-cause (Some reach) width p found)).0 legal in
      let parts = parts-of (array_cause p found) (end_cause p found)
      (map (line_cause_by (Some reach) width p) (route_lines found)) clean in
      ap judgement_by (from-parts (array_cause own found) (end_cause own found)
      (map (placed_line_cause false width own) (route_lines found)) parts.0
      (faultless-lines (placed_line_cause false width own) (route_lines found) (λ line among.
      let silent = silent-codes (graph_of width p) (reach_line p line) (reach_causes reach)
      (line_number line)
      (faultless-each (line_cause_by (Some reach) width p) (route_lines found) parts.1 line among)
      in
      moved parts.0 false line (record {
        connected = silent.0;
        low = silent.1.0;
        alone = silent.1.1.0;
        new = silent.1.1.1.1.0;
        whole = silent.1.1.1.1.1.0;
        fine = silent.1.1.1.1.1.1.0;
      })))
      parts.2)

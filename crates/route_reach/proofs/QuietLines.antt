-- Of a route that is judged legal within a reach no cause holds at any line.
use Rattle.std.proofs.Common.{◌≡◌, ℕ, [], ◌∷◌, ◌++◌, Some, sym, ◌∙◌}
use Rattle.std.specs.Prelude.{map}
use Rattle.list_laws.proofs.Members.{In}
use Rattle.fpga_text.specs.FirstFault.{Faults, IsFaultless, first_fault}
use Rattle.fpga_text.proofs.FaultLemmas.{first_fault-append, option_or-none}
use Rattle.fpga_types.specs.Fit.{RouteLine, line_number, route_lines}
use Rattle.fpga_types.specs.Problem.{RoutingProblem}
use Rattle.fpga_types.specs.declared.route.RouteText.{RouteText}
pub use Rattle.route_reach.specs.Quiet.{IsQuiet}
use Rattle.route_verify.specs.Judged.{array_cause, end_cause, graph_of}
use Rattle.route_verify.specs.Reach.{causes_by, reach_causes, reach_judged, reach_line, reach_line_cause}
use Rattle.route_verify.specs.declared.judgement.Judgement.TheVariants.{Legal}
use Rattle.route_verify.proofs.CodeLemmas.{faultless-each, silent-codes}
use Rattle.route_verify.proofs.LimitLemmas.{first-is-cause, legal-exactly}

module _ (width reach : ℕ) (p : RoutingProblem) where
  module _ (found : RouteText) where
    abbrev lines : Faults
    lines = map (reach_line_cause width reach p) (route_lines found)

    -- a route that is judged legal has no cause against it
    pub legal-without : reach_judged width reach p found ≡ Legal
        → IsFaultless (causes_by (Some reach) width p found)
    legal-without legal =
        (legal-exactly (first_fault (causes_by (Some reach) width p found))
        (first-is-cause (Some reach) width p found)).0 legal

    lines-clean : reach_judged width reach p found ≡ Legal → IsFaultless lines
    lines-clean legal =
        let behind = option_or-none (array_cause p found)
        (first_fault (lines ++ end_cause p found ∷ [])) (legal-without legal) in
        (option_or-none (first_fault lines) (first_fault (end_cause p found ∷ []))
        (sym (first_fault-append lines (end_cause p found ∷ [])) ∙ behind.1)).0

    pub quiet-lines : reach_judged width reach p found ≡ Legal → (line : RouteLine)
        → In (route_lines found) line → IsQuiet (graph_of width p) reach (reach_line p line)
    quiet-lines legal line among =
        let silent = silent-codes (graph_of width p) (reach_line p line) (reach_causes reach)
        (line_number line)
        (faultless-each (reach_line_cause width reach p) (route_lines found) (lines-clean legal)
        line among) in
        record {
          connected = silent.0;
          low = silent.1.0;
          alone = silent.1.1.0;
          near = silent.1.1.1.0;
          new = silent.1.1.1.1.0;
          whole = silent.1.1.1.1.1.0;
          fitting = silent.1.1.1.1.1.1.0;
          short = silent.1.1.1.1.1.1.1.0;
        }

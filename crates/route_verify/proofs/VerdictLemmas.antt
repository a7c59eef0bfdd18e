-- The causes against a routed file in their order: those of the array line, of the nets, and of the
-- end.
use Rattle.std.proofs.Common.{◌≡◌, ℕ, ◌+◌, ◌∙◌, true, false, [], ◌∷◌, Option, refl}
use Rattle.fpga_bounds.specs.NetFit.{nets_faults}
use Rattle.fpga_text.specs.FirstFault.{IsFaultless, IsRefusal}
use Rattle.fpga_text.specs.declared.fault.TextFault.{TextFault}
use Rattle.fpga_text.specs.declared.fault.TextFault.TheVariants.{Bad}
use Rattle.fpga_text.proofs.FaultLemmas.{IsPast, past-line, past-nothing, past-part, refusal-line, refusal-part}
use Rattle.fpga_types.specs.Fits.{lacks_net, same_size}
use Rattle.fpga_types.specs.Problem.{RoutingProblem}
use Rattle.fpga_types.specs.declared.route.RouteText.{RouteText}
use Rattle.route_verify.specs.Judge.{lines_causes}
use Rattle.route_verify.specs.Judged.{end_cause}
use Rattle.route_verify.specs.Reach.{causes_by, line_cause_by}

module _ (reach : Option ℕ) (width : ℕ) (p : RoutingProblem) (found : RouteText) where
  -- nothing is against the array line
  pub past-array-line : same_size p.placement.grid found.grid ≡ true
      → IsPast (causes_by reach width p found) (lines_causes reach width p found)
  past-array-line same = past-line (past-nothing (causes_by reach width p found)) (rw same refl)

  -- there is a cause against a Net or element line
  pub refused-lines : (fault : TextFault)
      → IsRefusal (nets_faults (line_cause_by reach width p) found.nets 0) fault
      → IsRefusal (lines_causes reach width p found) fault
  refused-lines fault is = refusal-part (nets_faults (line_cause_by reach width p) found.nets 0)
      (end_cause p found ∷ []) fault (past-nothing (lines_causes reach width p found)) is

  module _ (clean : IsFaultless (nets_faults (line_cause_by reach width p) found.nets 0)) where
    at-the-end : IsPast (lines_causes reach width p found) (end_cause p found ∷ [])
    at-the-end = past-part (nets_faults (line_cause_by reach width p) found.nets 0)
        (end_cause p found ∷ []) (past-nothing (lines_causes reach width p found)) clean

    -- there is one against the end
    pub refused-at-end : lacks_net (record p { route = found }) ≡ true
        → IsRefusal (lines_causes reach width p found) (Bad (found.lines + 1) 806)
    refused-at-end missing =
        refusal-line (Bad (found.lines + 1) 806) at-the-end (rw missing refl)

    -- nothing is against the end
    pub clean-at-end : lacks_net (record p { route = found }) ≡ false
        → IsFaultless (lines_causes reach width p found)
    clean-at-end none = at-the-end.same ∙ rw none refl

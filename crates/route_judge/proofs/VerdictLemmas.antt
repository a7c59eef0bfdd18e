-- The causes against a routed file in their order: those of the array line, of the nets, and of the
-- end.
use Rattle.std.proofs.Common.{◌≡◌, ℕ, ◌+◌, ◌∙◌, Bool, true, false, [], ◌∷◌, refl}
use Rattle.fpga_bounds.specs.NetFit.{nets_faults}
use Rattle.fpga_text.specs.FirstFault.{IsFaultless, IsRefusal}
use Rattle.fpga_text.specs.declared.fault.TextFault.{TextFault}
use Rattle.fpga_text.specs.declared.fault.TextFault.TheVariants.{Bad}
use Rattle.fpga_text.proofs.FaultLemmas.{IsPast, past-line, past-nothing, past-part, refusal-line, refusal-part}
use Rattle.fpga_types.specs.Fits.{lacks_net, same_size}
use Rattle.fpga_types.specs.Problem.{RoutingProblem}
use Rattle.route_judge.specs.Judge.{lines_causes}
use Rattle.route_judge.specs.Judged.{placed_line_cause, placed_route_causes}
use Rattle.route_verify.specs.Judged.{end_cause}

module _ (strict : Bool) (width : ℕ) (p : RoutingProblem) where
  -- nothing is against the array line
  pub past-array-line : same_size p.placement.grid p.route.grid ≡ true
      → IsPast (placed_route_causes strict width p) (lines_causes strict width p)
  past-array-line same =
      past-line (past-nothing (placed_route_causes strict width p)) (rw same refl)

  -- there is a cause against a Net or element line
  pub refused-lines : (fault : TextFault)
      → IsRefusal (nets_faults (placed_line_cause strict width p) p.route.nets 0) fault
      → IsRefusal (lines_causes strict width p) fault
  refused-lines fault is =
      refusal-part (nets_faults (placed_line_cause strict width p) p.route.nets 0)
      (end_cause p p.route ∷ []) fault (past-nothing (lines_causes strict width p)) is

  module _ (clean : IsFaultless (nets_faults (placed_line_cause strict width p) p.route.nets 0))
    where
      at-the-end : IsPast (lines_causes strict width p) (end_cause p p.route ∷ [])
      at-the-end = past-part (nets_faults (placed_line_cause strict width p) p.route.nets 0)
          (end_cause p p.route ∷ []) (past-nothing (lines_causes strict width p)) clean

      -- there is one against the end
      pub refused-at-end : lacks_net p ≡ true
          → IsRefusal (lines_causes strict width p) (Bad (p.route.lines + 1) 806)
      refused-at-end missing =
          refusal-line (Bad (p.route.lines + 1) 806) at-the-end (rw missing refl)

      -- nothing is against the end
      pub clean-at-end : lacks_net p ≡ false → IsFaultless (lines_causes strict width p)
      clean-at-end none = at-the-end.same ∙ rw none refl

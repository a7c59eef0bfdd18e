-- The faults of a problem in their order: those of the array line, of the nets, and of the end.
use Rattle.std.proofs.Common.{◌≡◌, ◌+◌, ◌∙◌, true, false, [], ◌∷◌, refl}
use Rattle.fpga_text.specs.FirstFault.{IsFaultless, IsRefusal}
use Rattle.fpga_text.specs.declared.fault.TextFault.{TextFault}
use Rattle.fpga_text.specs.declared.fault.TextFault.TheVariants.{Bad}
use Rattle.fpga_text.proofs.FaultLemmas.{IsPast, past-line, past-nothing, past-part, refusal-line, refusal-part}
use Rattle.fpga_types.specs.Fits.{end_fault, lacks_net, net_line_fault, problem_faults, same_size}
use Rattle.fpga_types.specs.Problem.{RoutingProblem}
use Rattle.fpga_bounds.specs.Heads.{line_faults}
use Rattle.fpga_bounds.specs.NetFit.{nets_faults}

-- the array line has no fault
pub past-array : (p : RoutingProblem) → same_size p.placement.grid p.route.grid ≡ true
    → IsPast (problem_faults p) (line_faults p)
past-array p same = past-line (past-nothing (problem_faults p)) (rw same refl)

module _ (p : RoutingProblem) where
  -- a Net or element line has one
  pub refused-nets : (found : TextFault)
      → IsRefusal (nets_faults (net_line_fault p) p.route.nets 0) found
      → IsRefusal (line_faults p) found
  refused-nets found is = refusal-part (nets_faults (net_line_fault p) p.route.nets 0)
      (end_fault p ∷ []) found (past-nothing (line_faults p)) is

  module _ (clean : IsFaultless (nets_faults (net_line_fault p) p.route.nets 0)) where
    at-end : IsPast (line_faults p) (end_fault p ∷ [])
    at-end = past-part (nets_faults (net_line_fault p) p.route.nets 0) (end_fault p ∷ [])
        (past-nothing (line_faults p)) clean

    -- the end has one
    pub refused-end : lacks_net p ≡ true → IsRefusal (line_faults p) (Bad (p.route.lines + 1) 502)
    refused-end missing = refusal-line (Bad (p.route.lines + 1) 502) at-end (rw missing refl)

    -- no line has one
    pub clean-end : lacks_net p ≡ false → IsFaultless (line_faults p)
    clean-end none = at-end.same ∙ rw none refl

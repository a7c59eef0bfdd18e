-- A problem that fits has no fault at any line, so its route fits by itself; and each value that
-- the
-- readers give is one that may be fitted.
use Rattle.std.proofs.Common.{◌≡◌, List, [], ◌∷◌, ◌++◌, Option, None, inl, inr, refl, sym, ap, ◌∙◌}
use Rattle.std.specs.Prelude.{map}
use Rattle.std.specs.Option.{option_or}
use Rattle.list_laws.proofs.Members.{In}
use Rattle.fpga_text.specs.FirstFault.{Faults, IsFaultless}
use Rattle.fpga_text.specs.declared.fault.TextFault.{TextFault}
use Rattle.fpga_text.proofs.FaultLemmas.{faultless-line, option_or-none}
use Rattle.fpga_types.specs.Fit.{IsFit, RouteLine, line_fault, route_lines}
use Rattle.fpga_types.specs.Fits.{Fits, array_fault, end_fault, net_line_fault, problem_fault}
use Rattle.fpga_types.specs.Given.{IsPlaced}
use Rattle.fpga_types.specs.Placements.{HaveOwnNames, IsSoundPlacement}
use Rattle.fpga_types.specs.Problem.{RoutingProblem}
use Rattle.fpga_types.specs.declared.arch.Arch.{Arch}
use Rattle.fpga_types.specs.declared.netlist.Netlist.{Netlist}
use Rattle.fpga_types.specs.declared.placement.Placement.{Placement}

-- no line that stands among others has a fault
each-clean : {L : Type 0} (fault : L → Option TextFault) (lines : List L) (rest : Faults)
    → IsFaultless (map fault lines ++ rest) → (line : L) → In lines line → fault line ≡ None
each-clean fault [] rest clean line i = absurd i
each-clean {L} fault (l ∷ ls) rest clean line i =
    let parts = faultless-line (fault l) (map fault ls ++ rest) clean in
    elim i [
      | inl e ↦ ap fault (sym e) ∙ parts.0
      | inr later ↦ each-clean fault ls rest parts.1 line later
    ]

-- where each line is clean by two tests, it is by the second
second-clean : {L : Type 0} (a b : L → Option TextFault) (lines : List L) (rest : Faults)
    → IsFaultless (map (λ l. option_or (a l) (b l)) lines ++ rest) → IsFaultless (map b lines)
second-clean a b [] rest clean = refl
second-clean a b (l ∷ ls) rest clean =
    let parts = faultless-line (option_or (a l) (b l)) (map (λ k. option_or (a k) (b k)) ls ++ rest)
    clean in
    rw (option_or-none (a l) (b l) parts.0).1 (second-clean a b ls rest parts.1)

module _ (p : RoutingProblem) (fits : Fits p) where
  behind : IsFaultless (map (net_line_fault p) (route_lines p.route) ++ end_fault p ∷ [])
  behind = (faultless-line (array_fault p)
      (map (net_line_fault p) (route_lines p.route) ++ end_fault p ∷ []) fits).1

  -- no Net or element line has a fault
  pub Fits-line : (line : RouteLine) → In (route_lines p.route) line → net_line_fault p line ≡ None
  Fits-line = each-clean (net_line_fault p) (route_lines p.route) (end_fault p ∷ []) behind

  -- the route fits by itself
  pub Fits-IsFit : IsFit p.route
  Fits-IsFit = second-clean (problem_fault p) (line_fault p.route.grid) (route_lines p.route)
      (end_fault p ∷ []) behind

-- a placement that was read for blocks with names of their own may be fitted
pub placement-given : (arch : Arch) (netlist : Netlist) (placement : Placement)
    → IsSoundPlacement arch netlist placement → HaveOwnNames netlist.blocks
    → IsPlaced arch netlist placement
placement-given arch netlist placement sound own =
    record { count = sound.count; lawful = (sound.lawful own).lawful }

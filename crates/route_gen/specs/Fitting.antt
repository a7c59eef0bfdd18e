-- What is true of the four values that the texts of a generated problem read as.
use Rattle.std.specs.Prelude.{◌≡◌, ◌⊎◌, ◌+◌, All, Option, None, Some}
use Rattle.fpga_arch.specs.Codes.{arch_faults}
use Rattle.fpga_arch.specs.Value.{arch_value}
use Rattle.fpga_net.specs.Value.{ReadsNet}
use Rattle.fpga_place.specs.Value.{Reads as ReadsPlacement}
use Rattle.fpga_route.specs.Value.{Reads as ReadsRoute}
use Rattle.fpga_text.specs.FirstFault.{IsFaultless}
use Rattle.fpga_text.specs.declared.fault.TextFault.{TextFault}
use Rattle.fpga_text.specs.declared.fault.TextFault.TheVariants.{Limit}
use Rattle.fpga_types.specs.FitCauses.{code_of}
use Rattle.fpga_types.specs.Fits.{problem_faults}
use Rattle.fpga_types.specs.Problem.{RoutingProblem}
use Rattle.fpga_types.specs.Texts.{Texts}
use Rattle.fpga_types.specs.declared.fit_cause.FitCause.TheVariants.{PastLimit}
use Rattle.fpga_types.specs.declared.limits.TheConstants.{SLOT_LIMIT}

-- no text has a fault, and they read as the values of this problem
pub record AreRead (texts : Texts) (p : RoutingProblem) : Type 0 where
  pub faultless : IsFaultless (arch_faults texts.architecture)
  pub arch : p.arch ≡ arch_value texts.architecture
  pub netlist : ReadsNet p.arch texts.netlist p.netlist
  pub placement : ReadsPlacement p.arch p.netlist texts.placement p.placement
  pub route : ReadsRoute texts.route p.route

-- a line is not refused, or for the slots alone, of which there are too many
abbrev pub IsForSlots : Option TextFault → Type 0
IsForSlots fault =
    (fault ≡ None) ⊎ (fault ≡ Some (Limit (code_of PastLimit) (SLOT_LIMIT + 1)))

-- the values fit, but that there may be too many slots
abbrev pub FitsButForSlots : RoutingProblem → Type 0
FitsButForSlots p = All IsForSlots (problem_faults p)

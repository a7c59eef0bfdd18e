-- All causes against a routed file: each of its lines against which there is one, with the least.
-- Each line is judged apart from the others, with the lines before it as they stand in the file.
use Rattle.std.specs.Prelude.{◌≡◌, ℕ, List, [], ◌∷◌, ◌++◌, length, map, flat_map, filter_map, Option, None, Some}
use Rattle.fpga_text.specs.declared.fault.TextFault.{TextFault}
use Rattle.fpga_text.specs.declared.fault.TextFault.TheVariants.{Bad, Limit, Memory}
use Rattle.fpga_types.specs.Fit.{RouteLine, route_lines}
use Rattle.fpga_types.specs.Problem.{RoutingProblem}
use Rattle.fpga_types.specs.declared.route.Elem.{Elem}
use Rattle.fpga_types.specs.declared.route.RouteText.{RouteText}
use Rattle.route_verify.specs.Judged.{array_cause, end_cause}
use Rattle.route_verify.specs.Reach.{causes_by, judged_by, line_cause_by}
use Rattle.route_verify.specs.declared.judgement.Judgement.{Judgement}
use Rattle.route_verify.specs.declared.judgement.Judgement.TheVariants.{Legal, NotLegal}
use Rattle.route_verify.specs.declared.line_cause.LineCause.{LineCause}

-- the cause against a line, if there is one, where the line is of this net and names this element
abbrev pub cause_against : (net : Option ℕ) → Option Elem → Option TextFault → List LineCause
cause_against net elem None = []
cause_against net elem (Some (Bad line cause)) =
    record { line = line; cause = cause; net = net; elem = elem } ∷ []
cause_against net elem (Some (Limit cause count)) = []
cause_against net elem (Some Memory) = []

-- against a Net or element line; the position of its net is how many nets stand before it
abbrev pub causes_at : Option ℕ → (width : ℕ) → RoutingProblem → RouteLine → List LineCause
causes_at reach width p line =
    cause_against (Some (length line.earlier)) line.elem (line_cause_by reach width p line)

-- against the array line, each Net and element line in their order, and the end
abbrev pub all_causes : Option ℕ → (width : ℕ) → RoutingProblem → RouteText → List LineCause
all_causes reach width p found = cause_against None None (array_cause p found)
    ++ flat_map (causes_at reach width p) (route_lines found)
    ++ cause_against None None (end_cause p found)

-- a cause as the judge has it: the line and the number
abbrev pub fault_of : LineCause → TextFault
fault_of at = Bad at.line at.cause

-- how a file is judged by the first of the causes against it
abbrev pub judged_first : List LineCause → Judgement
judged_first [] = Legal
judged_first (at ∷ more) = NotLegal at.line at.cause

-- these are all causes against the file: each stands with its net and what its line names (`each`);
-- they are those of the judge, of which none is left out, in the order of the lines (`whole`); and
-- the first is the one by which the file is judged, which is legal where there is none (`first`)
pub record AreAllCauses (reach : Option ℕ) (width : ℕ) (p : RoutingProblem) (found : RouteText)
    (causes : List LineCause) : Type 0 where
  pub each : causes ≡ all_causes reach width p found
  pub whole : map fault_of causes ≡ filter_map (λ cause. cause) (causes_by reach width p found)
  pub first : judged_by reach width p found ≡ judged_first causes

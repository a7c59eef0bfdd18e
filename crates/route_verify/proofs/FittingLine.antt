-- What is known of a line that no code of the fit holds at.
use Rattle.std.proofs.Common.{◌≡◌, false, None}
use Rattle.fpga_text.proofs.FaultLemmas.{option_or-none}
use Rattle.fpga_types.specs.Fit.{RouteLine, comes_again, context_of, fit_codes, is_out_of_order, line_fault, line_number, starts_loose}
use Rattle.fpga_types.specs.Fits.{device_of, is_other_pin, is_other_sink, is_other_source, is_repeated, is_sink_not_once, is_unknown, net_line_fault, problem_codes, problem_context, problem_fault}
use Rattle.fpga_types.specs.Problem.{RoutingProblem}
use Rattle.route_verify.proofs.CodeLemmas.{silent-codes}

-- the codes of the fit that a routed file is judged by do not hold at the line
pub record IsFitting (p : RoutingProblem) (line : RouteLine) : Type 0 where
  pub known : is_unknown (problem_context p line) ≡ false
  pub first : is_repeated (problem_context p line) ≡ false
  pub source : is_other_source (problem_context p line) ≡ false
  pub sink : is_other_sink (problem_context p line) ≡ false
  pub once : is_sink_not_once (problem_context p line) ≡ false
  pub pin : is_other_pin (device_of p) (problem_context p line) ≡ false
  pub new : comes_again (context_of line) ≡ false
  pub joined : starts_loose (context_of line) ≡ false
  pub alone : (context_of line).taken ≡ false
  pub order : is_out_of_order (context_of line) ≡ false

pub fitting : (p : RoutingProblem) (line : RouteLine) → net_line_fault p line ≡ None
    → IsFitting p line
fitting p line clean =
    let parts = option_or-none (problem_fault p line) (line_fault p.route.grid line) clean in
    let ends = silent-codes (device_of p) (problem_context p line) problem_codes
    (line_number line) parts.0 in
    let trace = silent-codes p.route.grid (context_of line) fit_codes (line_number line) parts.1 in
    record {
      known = ends.0;
      first = ends.1.0;
      source = ends.1.1.0;
      sink = ends.1.1.1.0;
      once = ends.1.1.1.1.0;
      pin = ends.1.1.1.1.1.0;
      new = trace.1.0;
      joined = trace.1.1.0;
      alone = trace.1.1.1.0;
      order = trace.1.1.1.1.0;
    }

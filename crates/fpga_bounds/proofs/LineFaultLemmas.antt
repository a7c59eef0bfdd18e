-- What a line is refused for, by what the code has at hand.
use Rattle.std.proofs.Common.{◌≡◌, Bool, false, sym, ap, ◌∙◌}
use Rattle.std.specs.Prelude.{◌&&◌, not}
use Rattle.std.specs.BTreeSet.{BTreeSet}
use Rattle.std.specs.List.{list_any}
use Rattle.std.specs.Option.{option_map_or}
use Rattle.fpga_text.specs.Codes.{first_code}
use Rattle.fpga_types.specs.Fit.{LineContext, RouteLine, fit_codes, line_fault, line_number}
use Rattle.fpga_types.specs.Fits.{ProblemContext as LineOfProblem, device_of, has_net, is_known, problem_codes, problem_context, problem_fault, so_far}
use Rattle.fpga_types.specs.Size.{Size}
use Rattle.fpga_types.specs.Terminals.{driver_named, is_input, is_terminal, sinks_named}
use Rattle.fpga_types.specs.declared.route.Elem.{Elem}
use Rattle.fpga_bounds.specs.ElemContext.{IsLineOf, context_at}
use Rattle.fpga_bounds.specs.NetEnds.{NamedNet, lacks_one}
use Rattle.fpga_bounds.specs.ProblemContext.{context_by, problem_context_at}
use Rattle.fpga_bounds.specs.declared.elem_context.ElemContext.{ElemContext}
use Rattle.fpga_bounds.specs.declared.keys.ElemKey.{ElemKey}
use Rattle.fpga_bounds.proofs.EndLemmas.{lacks-lines}

module _ (at : ElemContext) (seen : BTreeSet ElemKey) (line : RouteLine) (is : IsLineOf at seen
    line) where
  number : at.elem.line ≡ line_number line
  number = λ i. option_map_or (λ (e : Elem). e.line) (sym is.elem i) line.net.line

  -- by the route alone
  pub by-route : (grid : Size) → first_code fit_codes grid at.elem.line (context_at at)
      ≡ line_fault grid line
  by-route grid = λ i. first_code fit_codes grid (number i) (is.context i)

  -- what its net says of the line is what the codes look at
  pub at-hand : (net : NamedNet) → net.name ≡ line.net.name
      → (let known : Bool = is_known net.problem line.net.name line.net.global in
      let repeated : Bool = has_net line.earlier line.net.name in
      let context : LineOfProblem = problem_context_at (context_by net at seen) in
      record context { known = known; repeated = repeated })
      ≡ problem_context net.problem line
  at-hand net named = λ i. record {
    route = is.context i;
    known = is_known net.problem line.net.name line.net.global;
    repeated = has_net line.earlier line.net.name;
    driver = driver_named net.problem (named i);
    ends = option_map_or (λ e. list_any (is_terminal e) (sinks_named net.problem (named i)))
        (sym is.elem i) false;
    takes_in = option_map_or (is_input net.problem) (sym is.elem i) false;
    lacking = not (ap (λ (c : LineContext). c.global) is.context i)
        && ap (λ (c : LineContext). c.last) is.context i
        && (ap (λ n. lacks_one seen (sinks_named net.problem n)) named
        ∙ lacks-lines seen (so_far line) (sinks_named net.problem line.net.name) is.seen_are) i;
  }

  -- by the ends of its net
  pub by-ends : (net : NamedNet) → net.name ≡ line.net.name
      → first_code problem_codes (device_of net.problem) at.elem.line
      (problem_context_at (context_by net at seen)) ≡ problem_fault net.problem line
  by-ends net named =
      λ i. first_code problem_codes (device_of net.problem) (number i) (at-hand net named i)

-- The causes against a line, by what the code has at hand.
use Rattle.std.proofs.Common.{◌≡◌, ℕ, Bool, true, false, Option, Some, None, List, [], refl, sym, ap, ◌∙◌}
use Rattle.std.specs.Prelude.{◌&&◌, ◌==◌, length, not}
use Rattle.std.specs.BTreeSet.{BTreeSet}
use Rattle.std.specs.Option.{option_map_or}
use Rattle.fpga_bounds.specs.ElemContext.{with_full}
use Rattle.fpga_bounds.specs.NetEnds.{NamedNet}
use Rattle.fpga_bounds.specs.NetFit.{head_line}
use Rattle.fpga_bounds.specs.NetTable.{number_named}
use Rattle.fpga_bounds.specs.ProblemContext.{context_by}
use Rattle.fpga_bounds.specs.declared.keys.ElemKey.{ElemKey}
use Rattle.fpga_bounds.proofs.HeadLemmas.{not-known}
use Rattle.fpga_bounds.proofs.LineFaultLemmas.{at-hand}
use Rattle.fpga_graph.specs.GraphOf.{GraphOf}
use Rattle.fpga_text.specs.Codes.{first_code}
use Rattle.fpga_text.specs.declared.fault.TextFault.TheVariants.{Bad}
use Rattle.fpga_types.specs.Fit.{LineContext, RouteLine, context_of, line_number}
use Rattle.fpga_types.specs.Fits.{ProblemContext, has_net, is_known, lacks_sink}
use Rattle.fpga_types.specs.Problem.{RoutingProblem}
use Rattle.fpga_types.specs.Terminals.{driver_named}
use Rattle.fpga_types.specs.declared.problem.Terminal.{Terminal}
use Rattle.fpga_types.specs.declared.route.Elem.{Elem}
use Rattle.fpga_types.specs.declared.route.RouteNet.{RouteNet}
use Rattle.route_judge.specs.Judged.{placed_causes, placed_line_cause}
use Rattle.route_judge.specs.Rules.{IsLineOf}
use Rattle.route_judge.specs.declared.line.ElemLine.{ElemLine}
use Rattle.route_verify.specs.Heads.{head_cause}
use Rattle.route_verify.specs.Judged.{graph_of}
use Rattle.route_verify.specs.Lines.{has_wire, is_wire_of, without_count}
use Rattle.route_verify.specs.Rules.{judged_at}
use Rattle.route_verify.specs.Wiring.{wire_on}
use Rattle.route_verify.proofs.RuleLemmas.{bare_line, unnamed-whole}

module _ (at : ElemLine) (seen : BTreeSet ElemKey) (line : RouteLine) (is : IsLineOf at seen line)
  where
    number : at.route.elem.line ≡ line_number line
    number = λ i. option_map_or (λ (e : Elem). e.line) (sym is.route.elem i) line.net.line

    -- against an element line, by the rules of its net
    pub by-rules : (strict : Bool) (width : ℕ) (net : NamedNet) → net.name ≡ line.net.name
        → first_code (placed_causes strict) (graph_of width net.problem) at.route.elem.line
        (judged_at (record {
          fit = context_by net at.route seen;
          wire_again = at.wire_again;
          wire_taken = at.wire_taken;
          stray = false;
          depth = None;
        })) ≡ placed_line_cause strict width net.problem line
    by-rules strict width net named =
        let context : LineContext = context_of line in
        λ i. first_code (placed_causes strict) (graph_of width net.problem) (number i) (record {
          fit = ap (λ (fit : ProblemContext). record fit { route = without_count fit.route })
              (at-hand (with_full at.route context.full) seen line is.route net named) i;
          wire_again = (is.again ∙ (λ k. option_map_or (has_wire line.before)
              (wire_on (sym is.route.elem k)) false)) i;
          wire_taken = (is.taken ∙ (λ k. option_map_or (is_wire_of line.earlier)
              (wire_on (sym is.route.elem k)) false)) i;
          stray = false;
        })

-- the cause against a Net line
pub by-head : (strict : Bool) (g : GraphOf) (line : ℕ) (driver : Option Terminal)
    (known repeated global last lacking : Bool)
    → first_code (placed_causes strict) g line (bare_line driver known repeated global last lacking)
    ≡ head_cause line known repeated (not global && last) lacking
by-head true g line driver known repeated global last true = refl
by-head true g line driver false repeated global last false = refl
by-head true g line driver true true global last false = refl
by-head true g line driver true false true last false = refl
by-head true g line driver true false false true false = refl
by-head true g line driver true false false false false = refl
by-head false g line driver known repeated global last true = refl
by-head false g line driver false repeated global last false = refl
by-head false g line driver true true global last false = refl
by-head false g line driver true false true last false = refl
by-head false g line driver true false false true false = refl
by-head false g line driver true false false false false = refl

-- the cause against the Net line of a net of a problem
pub head-is : (strict : Bool) (width : ℕ) (p : RoutingProblem) (earlier : List RouteNet)
    (net : RouteNet)
    → placed_line_cause strict width p (head_line earlier net)
    ≡ head_cause net.line (is_known p net.name net.global) (has_net earlier net.name)
    (not net.global && length net.elems == 0) (lacks_sink p (head_line earlier net))
head-is strict width p earlier net =
    by-head strict (graph_of width p) net.line (driver_named p net.name)
    (is_known p net.name net.global) (has_net earlier net.name) net.global
    (length net.elems == 0) (lacks_sink p (head_line earlier net))

-- a name that the netlist does not have
pub head-unknown : (strict : Bool) (width : ℕ) (p : RoutingProblem) (earlier : List RouteNet)
    (net : RouteNet) → number_named p.netlist.nets net.name ≡ None
    → placed_line_cause strict width p (head_line earlier net) ≡ Some (Bad net.line 807)
head-unknown strict width p earlier net none =
    head-is strict width p earlier net
    ∙ (λ i. head_cause net.line (not-known p.netlist.nets net.name net.global none i)
    (has_net earlier net.name) (not net.global && length net.elems == 0)
    (unnamed-whole p earlier net none i))

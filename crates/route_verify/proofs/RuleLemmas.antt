-- The causes against a line, by what the code has at hand.
use Rattle.std.proofs.Common.{◌≡◌, ℕ, Bool, true, false, Option, Some, None, List, [], refl, sym, ap, ◌∙◌}
use Rattle.std.specs.Prelude.{◌&&◌, ◌==◌, length, not}
use Rattle.std.specs.BTreeSet.{BTreeSet}
use Rattle.std.specs.List.{list_all}
use Rattle.std.specs.Option.{option_map_or}
use Rattle.std.proofs.Math.Bool.{and-false}
use Rattle.fpga_bounds.specs.ElemContext.{with_full}
use Rattle.fpga_bounds.specs.NetEnds.{NamedNet}
use Rattle.fpga_bounds.specs.NetFit.{head_line}
use Rattle.fpga_bounds.specs.NetTable.{number_named}
use Rattle.fpga_bounds.specs.ProblemContext.{context_by}
use Rattle.fpga_bounds.specs.declared.keys.ElemKey.{ElemKey}
use Rattle.fpga_bounds.proofs.HeadLemmas.{not-known}
use Rattle.fpga_bounds.proofs.LineFaultLemmas.{at-hand}
use Rattle.fpga_bounds.proofs.NameLemmas.{unnamed}
use Rattle.fpga_graph.specs.GraphOf.{GraphOf}
use Rattle.fpga_text.specs.Codes.{first_code}
use Rattle.fpga_text.specs.declared.fault.TextFault.TheVariants.{Bad}
use Rattle.fpga_types.specs.Fit.{LineContext, RouteLine, context_of, line_number}
use Rattle.fpga_types.specs.Fits.{ProblemContext, has_net, has_sink, is_known, lacks_sink}
use Rattle.fpga_types.specs.Problem.{RoutingProblem}
use Rattle.fpga_types.specs.Terminals.{driver_named, sinks_of}
use Rattle.fpga_types.specs.declared.netlist.Net.{Net}
use Rattle.fpga_types.specs.declared.problem.Terminal.{Terminal}
use Rattle.fpga_types.specs.declared.route.Elem.{Elem}
use Rattle.fpga_types.specs.declared.route.RouteNet.{RouteNet}
use Rattle.route_verify.specs.Heads.{head_cause}
use Rattle.route_verify.specs.Judged.{graph_of, line_cause, line_causes}
use Rattle.route_verify.specs.Lines.{JudgedLine, has_wire, is_stray_in, is_wire_of, without_count}
use Rattle.route_verify.specs.Reach.{causes_within, line_cause_by, reach_line}
use Rattle.route_verify.specs.Rules.{IsLineOf, reached_at}
use Rattle.route_verify.specs.Wiring.{wire_on}
use Rattle.route_verify.specs.declared.line.ElemLine.{ElemLine}
use Rattle.route_verify.proofs.TableLemmas.{head-by, table-is}

module _ (at : ElemLine) (seen : BTreeSet ElemKey) (line : RouteLine) (is : IsLineOf at seen line)
  where
    number : at.route.elem.line ≡ line_number line
    number = λ i. option_map_or (λ (e : Elem). e.line) (sym is.route.elem i) line.net.line

    -- against an element line, by the rules of its net
    pub by-rules : (reach : Option ℕ) (width : ℕ) (net : NamedNet) (stray : Bool)
        → net.name ≡ line.net.name
        → stray ≡ is_stray_in net.problem.route.nets net.name at.route.elem
        → first_code (causes_within reach) (graph_of width net.problem) at.route.elem.line
        (reached_at (record {
          fit = context_by net at.route seen;
          wire_again = at.wire_again;
          wire_taken = at.wire_taken;
          stray = stray;
          depth = at.depth;
        })) ≡ line_cause_by reach width net.problem line
    by-rules reach width net stray named stray_is =
        let context : LineContext = context_of line in
        let same : first_code (causes_within reach) (graph_of width net.problem) at.route.elem.line
        (reached_at (record {
          fit = context_by net at.route seen;
          wire_again = at.wire_again;
          wire_taken = at.wire_taken;
          stray = stray;
          depth = at.depth;
        }))
        ≡ first_code (causes_within reach) (graph_of width net.problem) (line_number line)
        (reach_line net.problem line) =
        λ i. first_code (causes_within reach) (graph_of width net.problem) (number i) (record {
          line = record {
            fit = ap (λ (fit : ProblemContext). record fit { route = without_count fit.route })
                (at-hand (with_full at.route context.full) seen line is.route net named) i;
            wire_again = (is.again ∙ (λ k. option_map_or (has_wire line.before)
                (wire_on (sym is.route.elem k)) false)) i;
            wire_taken = (is.taken ∙ (λ k. option_map_or (is_wire_of line.earlier)
                (wire_on (sym is.route.elem k)) false)) i;
            stray = (stray_is ∙ (λ k. option_map_or (is_stray_in net.problem.route.nets (named k))
                (sym is.route.elem k) false)) i;
          };
          depth = is.depth i;
        }) in
        same ∙ table-is reach width net.problem line

-- what the causes look at, of a Net line
abbrev pub bare_line : Option Terminal → (known repeated global last lacking : Bool) → JudgedLine
bare_line driver known repeated global last lacking = record {
  fit = record {
    route = record {
      elem = None;
      previous = None;
      again = false;
      taken = false;
      full = false;
      last = last;
      global = global;
    };
    known = known;
    repeated = repeated;
    driver = driver;
    ends = false;
    takes_in = false;
    lacking = lacking;
  };
  wire_again = false;
  wire_taken = false;
  stray = false;
}

-- the cause against a Net line
pub by-head : (g : GraphOf) (line : ℕ) (driver : Option Terminal)
    (known repeated global last lacking : Bool)
    → first_code line_causes g line (bare_line driver known repeated global last lacking)
    ≡ head_cause line known repeated (not global && last) lacking
by-head g line driver known repeated global last true = refl
by-head g line driver false repeated global last false = refl
by-head g line driver true true global last false = refl
by-head g line driver true false true last false = refl
by-head g line driver true false false true false = refl
by-head g line driver true false false false false = refl

-- the cause against the Net line of a net of a problem
pub head-is : (width : ℕ) (p : RoutingProblem) (earlier : List RouteNet) (net : RouteNet)
    → line_cause width p (head_line earlier net)
    ≡ head_cause net.line (is_known p net.name net.global) (has_net earlier net.name)
    (not net.global && length net.elems == 0) (lacks_sink p (head_line earlier net))
head-is width p earlier net =
    by-head (graph_of width p) net.line (driver_named p net.name) (is_known p net.name net.global)
    (has_net earlier net.name) net.global (length net.elems == 0)
    (lacks_sink p (head_line earlier net))

-- a net with a name that the netlist does not have lacks nothing
pub unnamed-whole : (p : RoutingProblem) (earlier : List RouteNet) (net : RouteNet)
    → number_named p.netlist.nets net.name ≡ None
    → lacks_sink p (head_line earlier net) ≡ false
unnamed-whole p earlier net none =
    ap (λ (named : Option Net). not net.global && length net.elems == 0
    && not (list_all (has_sink []) (option_map_or (sinks_of p) named [])))
    (unnamed p.netlist.nets net.name none)
    ∙ and-false (not net.global && length net.elems == 0)

-- a name that the netlist does not have
pub head-unknown : (reach : Option ℕ) (width : ℕ) (p : RoutingProblem) (earlier : List RouteNet)
    (net : RouteNet) → number_named p.netlist.nets net.name ≡ None
    → line_cause_by reach width p (head_line earlier net) ≡ Some (Bad net.line 807)
head-unknown reach width p earlier net none =
    head-by reach width p earlier net
    ∙ head-is width p earlier net
    ∙ (λ i. head_cause net.line (not-known p.netlist.nets net.name net.global none i)
    (has_net earlier net.name) (not net.global && length net.elems == 0)
    (unnamed-whole p earlier net none i))

-- What a line of a net is judged by, as the code has it.
use Rattle.std.specs.Prelude.{◌≡◌, ℕ, false, Option}
use Rattle.std.specs.BTreeSet.{BTreeSet}
use Rattle.std.specs.Option.{option_map_or}
use Rattle.fpga_bounds.specs.ElemContext.{IsLineOf as IsElemLine, with_full}
use Rattle.fpga_bounds.specs.NetEnds.{NamedNet}
use Rattle.fpga_bounds.specs.ProblemContext.{problem_context_at}
use Rattle.fpga_bounds.specs.declared.keys.ElemKey.{ElemKey}
use Rattle.fpga_graph.specs.GraphOf.{GraphOf}
use Rattle.fpga_text.specs.Bytes.{Bytes}
use Rattle.fpga_types.specs.Fit.{LineContext as LineOfRoute, RouteLine, context_of}
use Rattle.fpga_types.specs.Fits.{ProblemContext}
use Rattle.fpga_types.specs.Problem.{RoutingProblem}
use Rattle.route_verify.specs.Depths.{deep_lines, same_tracked}
use Rattle.route_verify.specs.Judged.{graph_of}
use Rattle.route_verify.specs.Lines.{JudgedLine, has_wire, is_wire_of, trace_named, without_count}
use Rattle.route_verify.specs.Reach.{ReachLine, depth_at_pin}
use Rattle.route_verify.specs.Traces.{HasElems}
use Rattle.route_verify.specs.Wiring.{elem_wire}
use Rattle.route_verify.specs.declared.line.ElemLine.{ElemLine}
use Rattle.route_verify.specs.declared.line.LineContext.{LineContext}

-- a net of a problem, by its name, a number of tracks, and a reach if there is one
pub record JudgedNet : Type 0 where
  pub problem : RoutingProblem
  pub name : Bytes
  pub width : ℕ
  pub reach : Option ℕ

-- the net, at whatever number of tracks and reach
abbrev pub net_of : JudgedNet → NamedNet
net_of net = record { problem = net.problem; name = net.name }

-- the fabric is that of the problem of the net with these ends, and the set has the net's elements
-- of the global route
pub record AreRules (of : NamedNet) (g : GraphOf) (trace : BTreeSet ElemKey) : Type 0 where
  pub fabric : g ≡ graph_of g.width of.problem
  pub trace_is : HasElems trace (trace_named of.problem.route.nets of.name)

-- what the causes against an element line look at
abbrev pub judged_at : LineContext → JudgedLine
judged_at at = let fit : ProblemContext = problem_context_at at.fit in record {
  fit = record fit { route = without_count fit.route };
  wire_again = at.wire_again;
  wire_taken = at.wire_taken;
  stray = at.stray;
}

-- the same within a reach
abbrev pub reached_at : LineContext → ReachLine
reached_at at = record { line = judged_at at; depth = at.depth }

-- the line of an element of which this is at hand, but for how many slots there are, where the set
-- has the elements of its net up to it
pub record IsLineOf (at : ElemLine) (seen : BTreeSet ElemKey) (line : RouteLine) : Type 0 where
  pub route : let context : LineOfRoute = context_of line in
      IsElemLine (with_full at.route context.full) seen line
  pub again : at.wire_again
      ≡ option_map_or (has_wire line.before) (elem_wire at.route.elem) false
  pub taken : at.wire_taken
      ≡ option_map_or (is_wire_of line.earlier) (elem_wire at.route.elem) false
  pub depth : at.depth ≡ depth_at_pin (deep_lines same_tracked line.before)

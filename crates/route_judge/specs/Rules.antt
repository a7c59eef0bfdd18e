-- What a line of a net is judged by, as the code has it.
use Rattle.std.specs.Prelude.{◌≡◌, ℕ, Bool, false}
use Rattle.std.specs.BTreeSet.{BTreeSet}
use Rattle.std.specs.Option.{option_map_or}
use Rattle.fpga_bounds.specs.ElemContext.{IsLineOf as IsElemLine, with_full}
use Rattle.fpga_bounds.specs.NetEnds.{NamedNet}
use Rattle.fpga_bounds.specs.declared.keys.ElemKey.{ElemKey}
use Rattle.fpga_graph.specs.GraphOf.{GraphOf}
use Rattle.fpga_text.specs.Bytes.{Bytes}
use Rattle.fpga_types.specs.Fit.{LineContext as LineOfRoute, RouteLine, context_of}
use Rattle.fpga_types.specs.Problem.{RoutingProblem}
use Rattle.route_judge.specs.declared.line.ElemLine.{ElemLine}
use Rattle.route_verify.specs.Judged.{graph_of}
use Rattle.route_verify.specs.Lines.{has_wire, is_wire_of}
use Rattle.route_verify.specs.Wiring.{elem_wire}

-- a net of a problem, by its name, and a number of tracks; `strict` where it may have one wire of a
-- cell alone
pub record PlacedNet : Type 0 where
  pub problem : RoutingProblem
  pub name : Bytes
  pub width : ℕ
  pub strict : Bool

-- the net, at whatever number of tracks
abbrev pub net_of : PlacedNet → NamedNet
net_of net = record { problem = net.problem; name = net.name }

-- the fabric is that of the problem of the net with these ends
pub record AreRules (of : NamedNet) (g : GraphOf) : Type 0 where
  pub fabric : g ≡ graph_of g.width of.problem

-- the line of an element of which this is at hand, but for how many slots there are, where the set
-- has the elements of its net up to it
pub record IsLineOf (at : ElemLine) (seen : BTreeSet ElemKey) (line : RouteLine) : Type 0 where
  pub route : let context : LineOfRoute = context_of line in
      IsElemLine (with_full at.route context.full) seen line
  pub again : at.wire_again
      ≡ option_map_or (has_wire line.before) (elem_wire at.route.elem) false
  pub taken : at.wire_taken
      ≡ option_map_or (is_wire_of line.earlier) (elem_wire at.route.elem) false

-- A net that is printed by its tree: its lines so far, and what is promised of it at its end.
use Rattle.std.specs.Prelude.{◌≡◌, ℕ, suc, ◌<◌, ◌≤◌, Bool, true, false, ◌||◌, Contains, List, [], ◌∷◌, Option, None, Some, filter, length, slice_get, slice_index_or, take, drop}
use Rattle.std.specs.List.{last_or, list_any}
use Rattle.std.specs.Option.{option_map_or}
use Rattle.fpga_bounds.specs.Keys.{has_elem}
use Rattle.fpga_bounds.specs.NetFit.{line_at}
use Rattle.fpga_graph.specs.GraphOf.{GraphOf}
use Rattle.fpga_types.specs.Fit.{RouteLine, is_pin_of, same_elem}
use Rattle.fpga_types.specs.Fits.{Fits}
use Rattle.fpga_types.specs.Given.{IsGiven}
use Rattle.fpga_types.specs.Kinds.{is_channel, is_ipin, is_opin, is_sink}
use Rattle.fpga_types.specs.Problem.{RoutingProblem}
use Rattle.fpga_types.specs.Slots.{slots}
use Rattle.fpga_types.specs.declared.limits.TheConstants.{WIDTH_LIMIT}
use Rattle.fpga_types.specs.declared.grid.Axis.{Axis}
use Rattle.fpga_types.specs.declared.grid.Axis.TheVariants.{X, Y}
use Rattle.fpga_types.specs.declared.grid.Wire.{Wire}
use Rattle.fpga_types.specs.declared.route.Elem.{Elem}
use Rattle.fpga_types.specs.declared.route.ElemKind.{ElemKind}
use Rattle.fpga_types.specs.declared.route.ElemKind.TheVariants.{ChanX, ChanY}
use Rattle.fpga_types.specs.declared.route.Label.TheVariants.{Track}
use Rattle.fpga_types.specs.declared.route.RouteNet.{RouteNet}
use Rattle.route_reach.specs.Good.{IsRoutedNet}
use Rattle.route_reach.specs.Quiet.{IsQuiet}
use Rattle.route_reach.specs.Tree.{IsTree, Serves, TreeOf, reached_at, tree_wire}
use Rattle.route_reach.specs.declared.printed.Printed.{Printed}
use Rattle.route_reach.specs.declared.tree.Reached.{Reached}
use Rattle.route_verify.specs.Depths.{DeepLine, deep_lines, same_tracked}
use Rattle.route_verify.specs.Judged.{graph_of}
use Rattle.route_verify.specs.Lines.{has_wire, is_wire_of}
use Rattle.route_verify.specs.Reach.{depth_at_pin, reach_line}
use Rattle.route_verify.specs.Wiring.{elem_wire}

-- a net of a problem's global route, at this position, with its tree of wires for a reach
pub record NetFrame : Type 0 where
  pub problem : RoutingProblem
  pub width : ℕ
  pub reach : ℕ
  pub number : ℕ
  pub net : RouteNet
  pub tree : TreeOf

abbrev pub frame : RoutingProblem → (width reach number : ℕ) → RouteNet → TreeOf → NetFrame
frame problem width reach number net tree = record {
  problem = problem;
  width = width;
  reach = reach;
  number = number;
  net = net;
  tree = tree;
}

abbrev pub graph_in : NetFrame → GraphOf
graph_in f = graph_of f.width f.problem

-- the problem fits, the net is an ordinary one of its route, and the tree serves its sinks
pub record IsFrame (f : NetFrame) : Type 0 where
  pub given : IsGiven f.problem
  pub fits : Fits f.problem
  pub wide : 1 ≤ f.width
  pub most : f.width ≤ WIDTH_LIMIT
  pub here : slice_get f.problem.route.nets f.number ≡ Some f.net
  pub ordinary : f.net.global ≡ false
  pub tree : IsTree (graph_in f) f.reach (slots f.problem.route) f.number f.net f.tree
  pub serves : Serves (graph_in f) (slots f.problem.route) f.net f.tree

-- the wire of a number
abbrev pub wire_of : NetFrame → ℕ → Wire
wire_of f k = tree_wire (slots f.problem.route) f.tree k

-- the channels along an axis
abbrev pub channel_kind : Axis → ElemKind
channel_kind X = ChanX
channel_kind Y = ChanY

-- the channel line on a wire
abbrev pub wire_line : Wire → Elem
wire_line w = record {
  kind = channel_kind w.cell.axis;
  x = w.cell.x;
  y = w.cell.y;
  label = Track;
  number = w.track;
  line = 0;
}

-- ---- what is printed so far

-- a line of the net behind others, of which nothing is known yet but that it isn't the last, nor
-- any of the nets before it
abbrev pub line_behind : NetFrame → (before : List Elem) → Elem → RouteLine
line_behind f before e =
    record { earlier = []; net = f.net; before = before; elem = Some e; after = e ∷ [] }

-- no cause holds at the line behind these
abbrev pub IsQuietBehind : NetFrame → (before : List Elem) → Elem → Type 0
IsQuietBehind f before e =
    IsQuiet (graph_in f) f.reach (reach_line f.problem (line_behind f before e))

-- the line is an IPIN or a SINK
abbrev pub is_end : Elem → Bool
is_end e = is_ipin e.kind || is_sink e.kind

abbrev pub ends_of : List Elem → List Elem
ends_of lines = filter is_end lines

-- a branch may begin: nothing stands before it, or a SINK
abbrev pub is_open : List Elem → Bool
is_open lines = option_map_or (λ (e : Elem). is_sink e.kind) (last_or None lines) true

-- the line is one of the net in the global route, or on a wire that is reached
pub record IsOwn (f : NetFrame) (e : Elem) : Type 0 where
  pub pin : is_channel e.kind ≡ false → Contains f.net.elems e
  pub wire : is_channel e.kind ≡ true → (k : ℕ) × (r : Reached)
      × (reached_at f.tree k ≡ Some r) × (e ≡ wire_line (wire_of f k))

-- no cause holds at the lines so far; each is the net's own, and a channel line has the depth of
-- its wire; it is kept of which wires there is a line, and of which OPINs; the SOURCE comes first
pub record IsPrinting (f : NetFrame) (printed : Printed) : Type 0 where
  pub quiet : (i : ℕ) (e : Elem) → slice_get printed.lines.items i ≡ Some e
      → IsQuietBehind f (take i printed.lines.items) e
  pub own : (e : Elem) → Contains printed.lines.items e → IsOwn f e
  pub deep : (line : DeepLine) (k : ℕ) (r : Reached)
      → Contains (deep_lines same_tracked printed.lines.items) line
      → reached_at f.tree k ≡ Some r → elem_wire line.elem ≡ Some (wire_of f k)
      → line.depth ≡ Some r.depth
  pub places : length printed.marks.items ≡ length f.tree.wires
  pub marked : (k : ℕ) (r : Reached) → reached_at f.tree k ≡ Some r
      → slice_index_or printed.marks.items k false
      ≡ has_wire printed.lines.items (wire_of f k)
  pub seen : (e : Elem) → is_opin e.kind ≡ true
      → has_elem printed.opins e ≡ list_any (same_elem e) printed.lines.items
  pub begun : (e : Elem) → slice_get f.net.elems 0 ≡ Some e
      → 0 < length printed.lines.items → list_any (same_elem e) printed.lines.items ≡ true

-- the wires that are reached over more joins than so many have lines as before
abbrev pub KeepsDeeper : NetFrame → (depth : ℕ) → Printed → Printed → Type 0
KeepsDeeper f depth old new = (k : ℕ) (r : Reached) → reached_at f.tree k ≡ Some r
    → depth < r.depth
    → slice_index_or new.marks.items k false ≡ slice_index_or old.marks.items k false

-- behind an IPIN, which stands behind a wire that is reached
pub record IsAtPin (f : NetFrame) (lines : List Elem) (e : Elem) : Type 0 where
  pub last : last_or None lines ≡ Some e
  pub depth : ℕ
  pub deep : depth_at_pin (deep_lines same_tracked lines) ≡ Some depth
  pub low : depth ≤ f.reach

-- where the next line may stand, by the line before it in the global route
abbrev pub StandsBehind : NetFrame → List Elem → Option Elem → Type 0
StandsBehind f lines None = is_open lines ≡ true
StandsBehind f lines (Some e) =
    (is_ipin e.kind ≡ true → IsAtPin f lines e) × (is_ipin e.kind ≡ false → is_open lines ≡ true)

-- the IPIN and SINK lines among the first so many of the global route are printed
pub record IsPrintedTo (f : NetFrame) (count : ℕ) (printed : Printed) : Type 0 where
  pub printing : IsPrinting f printed
  pub ends : ends_of printed.lines.items ≡ ends_of (take count f.net.elems)
  pub stands : StandsBehind f printed.lines.items (last_or None (take count f.net.elems))

-- ---- what is promised of the whole net

-- the earlier nets have neither a wire nor a pin of the net's lines
pub record AreApart (earlier : List RouteNet) (net : RouteNet) : Type 0 where
  pub wires : (e : Elem) (w : Wire) → Contains net.elems e → elem_wire e ≡ Some w
      → is_wire_of earlier w ≡ false
  pub pins : (e : Elem) → Contains net.elems e → is_pin_of earlier e ≡ false

-- the net is one of the global route, routed over wires of its tree, and behind nets that share no
-- wire and no pin with it no cause holds at any of its lines
pub record IsPrintedNet (f : NetFrame) (found : RouteNet) : Type 0 where
  pub routed : IsRoutedNet f.net found
  pub some : 0 < length found.elems
  pub wires : (e : Elem) (w : Wire) → Contains found.elems e → elem_wire e ≡ Some w
      → (k : ℕ) × (r : Reached) × (reached_at f.tree k ≡ Some r) × (wire_of f k ≡ w)
  pub quiet : (earlier : List RouteNet) (i : ℕ) (e : Elem) → AreApart earlier found
      → slice_get found.elems i ≡ Some e
      → IsQuiet (graph_in f) f.reach (reach_line f.problem
      (line_at earlier found (take i found.elems, e, drop (suc i) found.elems)))

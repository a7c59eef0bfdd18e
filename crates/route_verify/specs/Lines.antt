-- What the causes against a line of a routed file look at.
use Rattle.std.specs.Prelude.{Bool, false, not, ◌&&◌, ◌||◌, List, [], bytes_eq, find}
use Rattle.std.specs.List.{list_any}
use Rattle.std.specs.Option.{option_map_or}
use Rattle.fpga_graph.specs.GraphOf.{GraphOf}
use Rattle.fpga_text.specs.Bytes.{Bytes}
use Rattle.fpga_types.specs.Fit.{LineContext, RouteLine, comes_again, context_of, is_branch, is_out_of_order, on_elem, same_elem}
use Rattle.fpga_types.specs.Fits.{Device, ProblemContext, is_other_pin, is_other_sink, is_other_source, is_repeated, is_unknown, problem_context}
use Rattle.fpga_types.specs.Kinds.{is_channel, is_ipin, is_sink}
use Rattle.fpga_types.specs.Problem.{RoutingProblem}
use Rattle.fpga_types.specs.declared.grid.Wire.{Wire}
use Rattle.fpga_types.specs.declared.route.Elem.{Elem}
use Rattle.fpga_types.specs.declared.route.RouteNet.{RouteNet}
use Rattle.route_verify.specs.Wiring.{are_unconnected, elem_wire, is_past_width, same_wire, wire_on}

-- the line is a channel line of the wire
abbrev pub is_on_wire : Wire → Elem → Bool
is_on_wire wire e = option_map_or (same_wire wire) (elem_wire e) false

-- one of the lines is on the wire
abbrev pub has_wire : List Elem → Wire → Bool
has_wire elems wire = list_any (is_on_wire wire) elems

-- one of the nets is on the wire
abbrev pub is_wire_of : List RouteNet → Wire → Bool
is_wire_of nets wire = list_any (λ (net : RouteNet). has_wire net.elems wire) nets

-- the net has this name
abbrev pub is_trace_named : Bytes → RouteNet → Bool
is_trace_named name net = bytes_eq net.name name

-- the elements of the net of a route with this name; of two, those of the first
abbrev pub trace_named : List RouteNet → Bytes → List Elem
trace_named nets name =
    option_map_or (λ (net : RouteNet). net.elems) (find (is_trace_named name) nets) []

-- the element is a channel, and its cell is none of its net's in the global route
abbrev pub is_stray_in : List RouteNet → Bytes → Elem → Bool
is_stray_in nets name e =
    is_channel e.kind && not (list_any (same_elem e) (trace_named nets name))

abbrev pub is_stray : RoutingProblem → RouteLine → Bool
is_stray p line =
    option_map_or (is_stray_in p.route.nets line.net.name) line.elem false

-- what the causes against a line look at: what the codes of the fit do (`fit`), though not how many
-- slots there are; whether the element is a channel on a wire of an earlier line of its net, or of
-- an earlier net; whether it is a channel in a cell that is none of its net's in the global route
pub record JudgedLine : Type 0 where
  pub fit : ProblemContext
  pub wire_again : Bool
  pub wire_taken : Bool
  pub stray : Bool

-- the same, however many slots there are
abbrev pub without_count : LineContext → LineContext
without_count at = record at { full = false }

-- what the codes of the fit look at, but for the number of slots
abbrev pub fit_context : RoutingProblem → RouteLine → ProblemContext
fit_context p line = let at : ProblemContext = problem_context p line in
    record at { route = without_count (context_of line) }

abbrev pub judged_line : RoutingProblem → RouteLine → JudgedLine
judged_line p line = record {
  fit = fit_context p line;
  wire_again = option_map_or (has_wire line.before) (wire_on line.elem) false;
  wire_taken = option_map_or (is_wire_of line.earlier) (wire_on line.elem) false;
  stray = is_stray p line;
}

-- a channel in a cell of an earlier line of its net, unless it is in branch position and names a
-- wire of its net again
abbrev pub repeats_cell : JudgedLine → Bool
repeats_cell at = on_elem (λ e. is_channel e.kind && at.fit.route.again
    && not (is_branch at.fit.route && at.wire_again)) at.fit.route

-- a SINK that stands earlier in its net
abbrev pub is_sink_again : LineContext → Bool
is_sink_again at = on_elem (λ e. is_sink e.kind && at.again) at

-- an element that is no channel and no SINK, not in branch position, and equals an earlier one of
-- its net
abbrev pub is_other_again : LineContext → Bool
is_other_again at = comes_again at && on_elem (λ e. not (is_channel e.kind)) at

-- the element equals an earlier one of its net, a channel with its track
abbrev pub is_again : JudgedLine → Elem → Bool
is_again at e = at.fit.route.again && (not (is_channel e.kind) || at.wire_again)

-- an element other than an IPIN or a SINK, in branch position, that equals no earlier one of its
-- net
abbrev pub branches_loose : JudgedLine → Bool
branches_loose at = on_elem (λ e. not (is_ipin e.kind) && not (is_sink e.kind)
    && is_branch at.fit.route && not (is_again at e)) at.fit.route

-- the pins of the architecture and the array
abbrev pub device_in : GraphOf → Device
device_in g = record { arch = g.arch; grid = g.grid }

-- a code of the fit would hold at the line: one that no other cause stands for
abbrev pub is_unfit : GraphOf → JudgedLine → Bool
is_unfit g at = is_unknown at.fit || is_repeated at.fit || is_other_source at.fit
    || is_other_sink at.fit || is_sink_again at.fit.route || is_other_pin (device_in g) at.fit
    || is_other_again at.fit.route || branches_loose at || at.fit.route.taken
    || is_out_of_order at.fit.route

-- the lines before and with this one are not connected by the fabric
abbrev pub is_unconnected : GraphOf → JudgedLine → Bool
is_unconnected g at = are_unconnected g at.fit.route.previous at.fit.route.elem

-- the track of the line is not below the width
abbrev pub is_too_high : GraphOf → JudgedLine → Bool
is_too_high g at = is_past_width g at.fit.route.elem

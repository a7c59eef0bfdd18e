-- When the four values of a routing problem fit: what can be wrong with it, each cause as a test of
-- one line.
use Rattle.std.specs.Prelude.{◌+◌, ◌==◌, Bool, true, false, not, ◌&&◌, ◌||◌, List, [], ◌∷◌, ◌++◌, length, map, bytes_eq, Option, Some, None, is_none, option_and_then, if◌then◌else◌}
use Rattle.std.specs.List.{list_any, list_all}
use Rattle.std.specs.Option.{option_map_or, option_or}
use Rattle.fpga_text.specs.Bytes.{Bytes}
use Rattle.fpga_text.specs.Codes.{LineCode, At, first_code}
use Rattle.fpga_text.specs.FirstFault.{Faults, IsFaultless}
use Rattle.fpga_text.specs.declared.fault.TextFault.{TextFault}
use Rattle.fpga_text.specs.declared.fault.TextFault.TheVariants.{Bad}
use Rattle.fpga_types.specs.Fit.{LineContext, RouteLine, context_of, line_fault, line_number, on_elem, route_lines}
use Rattle.fpga_types.specs.FitCauses.{code_of}
use Rattle.fpga_types.specs.Kinds.{is_ipin, is_opin, is_sink, is_source}
use Rattle.fpga_types.specs.Problem.{RoutingProblem}
use Rattle.fpga_types.specs.Size.{Size}
use Rattle.fpga_types.specs.Slots.{elem_cell, elem_pin}
use Rattle.fpga_types.specs.Terminals.{driver_named, is_input, is_ordinary_pin_at, is_pin_at, is_terminal, named_terminal, net_named, sinks_named}
use Rattle.fpga_types.specs.Touching.{touches}
use Rattle.fpga_types.specs.declared.arch.Arch.{Arch}
use Rattle.fpga_types.specs.declared.fit_cause.FitCause.TheVariants.{OtherArray, MissingNet, UnknownNet, RepeatedNet, OtherSource, OtherSink, SinkNotOnce, OtherPin, PinApart}
use Rattle.fpga_types.specs.declared.grid.Cell.{Cell}
use Rattle.fpga_types.specs.declared.grid.PinAt.{PinAt}
use Rattle.fpga_types.specs.declared.netlist.Net.{Net}
use Rattle.fpga_types.specs.declared.problem.Terminal.{Terminal}
use Rattle.fpga_types.specs.declared.route.Elem.{Elem}
use Rattle.fpga_types.specs.declared.route.RouteNet.{RouteNet}

-- a net of the route has this name
abbrev pub has_net : List RouteNet → Bytes → Bool
has_net nets name = list_any (λ (net : RouteNet). bytes_eq net.name name) nets

-- both are true, or neither is
abbrev pub agree : Bool → Bool → Bool
agree true b = b
agree false b = not b

-- the netlist has a net with this name, and it is global or not as this says
abbrev pub is_known : RoutingProblem → Bytes → (global : Bool) → Bool
is_known p name global =
    option_map_or (λ (net : Net). agree net.global global) (net_named p name) false

-- a SINK line among these names the terminal
abbrev pub has_sink : List Elem → Terminal → Bool
has_sink elems at = list_any (λ (e : Elem). is_sink e.kind && is_terminal e at) elems

-- the lines of a net up to this one, with it
abbrev pub so_far : RouteLine → List Elem
so_far line = option_map_or (λ e. line.before ++ e ∷ []) line.elem line.before

-- the line ends an ordinary net, and a sink of the net has no SINK line
abbrev pub lacks_sink : RoutingProblem → RouteLine → Bool
lacks_sink p line = not line.net.global && length line.after == 0
    && not (list_all (has_sink (so_far line)) (sinks_named p line.net.name))

-- what the codes of a line look at besides what those of the route alone do (`route`): whether the
-- netlist has the net in this form, and whether an earlier Net line has its name; the terminal that
-- drives the net; whether the element is a sink of the net, and whether it is at a pin that may be
-- one; whether the line ends its net without each sink
pub record ProblemContext : Type 0 where
  pub route : LineContext
  pub known : Bool
  pub repeated : Bool
  pub driver : Option Terminal
  pub ends : Bool
  pub takes_in : Bool
  pub lacking : Bool

abbrev pub problem_context : RoutingProblem → RouteLine → ProblemContext
problem_context p line = record {
  route = context_of line;
  known = is_known p line.net.name line.net.global;
  repeated = has_net line.earlier line.net.name;
  driver = driver_named p line.net.name;
  ends = option_map_or (λ e. list_any (is_terminal e) (sinks_named p line.net.name)) line.elem
      false;
  takes_in = option_map_or (is_input p) line.elem false;
  lacking = lacks_sink p line;
}

-- what every line of a problem is tested against besides: its pins and its array
pub record Device : Type 0 where
  pub arch : Arch
  pub grid : Size

abbrev pub device_of : RoutingProblem → Device
device_of p = record { arch = p.arch; grid = p.route.grid }

-- a Net line with a name that the netlist does not have, or whose form is not that of its net
abbrev pub is_unknown : ProblemContext → Bool
is_unknown at = is_none at.route.elem && not at.known

-- a Net line with the name of an earlier one
abbrev pub is_repeated : ProblemContext → Bool
is_repeated at = is_none at.route.elem && at.repeated

-- a SOURCE that is not the driver of its net
abbrev pub is_other_source : ProblemContext → Bool
is_other_source at = on_elem (λ e. is_source e.kind
    && not (option_map_or (is_terminal e) at.driver false)) at.route

-- a SINK that is no sink of its net
abbrev pub is_other_sink : ProblemContext → Bool
is_other_sink at = on_elem (λ e. is_sink e.kind && not at.ends) at.route

-- a SINK that stands earlier in its net, or the end of a net that lacks one
abbrev pub is_sink_not_once : ProblemContext → Bool
is_sink_not_once at = on_elem (λ e. is_sink e.kind && at.route.again) at.route || at.lacking

-- an OPIN that is no pin of the driver's block and class that takes ordinary nets, nor its pad
abbrev pub is_other_opin : Device → ProblemContext → Elem → Bool
is_other_opin device at e = is_opin e.kind
    && not (option_map_or (λ driver. is_ordinary_pin_at device.arch driver e) at.driver false)

-- an IPIN that is no input pin of a placed logic block that takes ordinary nets, nor a placed
-- output pad
abbrev pub is_other_ipin : ProblemContext → Elem → Bool
is_other_ipin at e = is_ipin e.kind && not at.takes_in

-- a SINK after an IPIN of another place, class or pad
abbrev pub is_moved_sink : Device → ProblemContext → Elem → Bool
is_moved_sink device at e = is_sink e.kind && option_map_or (λ (before : Elem). is_ipin before.kind
    && not (is_pin_at device.arch (named_terminal e) before)) at.route.previous false

-- one of these three
abbrev pub is_other_pin : Device → ProblemContext → Bool
is_other_pin device at = on_elem (λ e. is_other_opin device at e || is_other_ipin at e
    || is_moved_sink device at e) at.route

-- there are a pin and a cell, and the pin does not touch the cell
abbrev pub is_off : Device → Option PinAt → Option Cell → Bool
is_off device (Some pin) (Some cell) = not (touches device.arch device.grid pin cell)
is_off device _ _ = false

-- a pin line and a channel line whose pin does not touch the cell
abbrev pub are_off : Device → (pin channel : Option Elem) → Bool
are_off device pin channel =
    is_off device (option_and_then elem_pin pin) (option_and_then elem_cell channel)

-- the line before is an OPIN
abbrev pub is_after_opin : LineContext → Bool
is_after_opin at = option_map_or (λ (e : Elem). is_opin e.kind) at.previous false

-- a channel after an OPIN, or an IPIN after a channel, where the pin does not touch the cell
abbrev pub is_pin_apart : Device → ProblemContext → Bool
is_pin_apart device at =
    is_after_opin at.route && are_off device at.route.previous at.route.elem
    || on_elem (λ e. is_ipin e.kind) at.route && are_off device at.route.elem at.route.previous

-- the codes of a Net or element line that its netlist, its placement and the architecture give,
-- least first; those of the route alone are greater
abbrev pub problem_codes : List (LineCode Device ProblemContext)
problem_codes = At (code_of UnknownNet) (λ device at. is_unknown at)
    ∷ At (code_of RepeatedNet) (λ device at. is_repeated at)
    ∷ At (code_of OtherSource) (λ device at. is_other_source at)
    ∷ At (code_of OtherSink) (λ device at. is_other_sink at)
    ∷ At (code_of SinkNotOnce) (λ device at. is_sink_not_once at)
    ∷ At (code_of OtherPin) is_other_pin ∷ At (code_of PinApart) is_pin_apart ∷ []

-- why a line is refused by these, if it is
abbrev pub problem_fault : RoutingProblem → RouteLine → Option TextFault
problem_fault p line =
    first_code problem_codes (device_of p) (line_number line) (problem_context p line)

-- why a Net or element line is refused, if it is: by the least code of all
abbrev pub net_line_fault : RoutingProblem → RouteLine → Option TextFault
net_line_fault p line = option_or (problem_fault p line) (line_fault p.route.grid line)

-- the arrays have one size
abbrev pub same_size : Size → Size → Bool
same_size a b = a.nx == b.nx && a.ny == b.ny

-- why the array line is refused, if it is: the placement's array has another size
abbrev pub array_fault : RoutingProblem → Option TextFault
array_fault p = if same_size p.placement.grid p.route.grid then None
    else Some (Bad p.route.grid_line (code_of OtherArray))

-- a net of the netlist that is not global has no Net line
abbrev pub lacks_net : RoutingProblem → Bool
lacks_net p = list_any (λ (net : Net). not net.global && not (has_net p.route.nets net.name))
    p.netlist.nets

-- why the end is refused, if it is; it stands behind the last line
abbrev pub end_fault : RoutingProblem → Option TextFault
end_fault p =
    if lacks_net p then Some (Bad (p.route.lines + 1) (code_of MissingNet)) else None

-- the faults of a problem, line by line: of the array line, of each Net and element line in their
-- order, and of the end
abbrev pub problem_faults : RoutingProblem → Faults
problem_faults p =
    array_fault p ∷ map (net_line_fault p) (route_lines p.route) ++ end_fault p ∷ []

-- no line is refused
abbrev pub Fits : RoutingProblem → Type 0
Fits p = IsFaultless (problem_faults p)

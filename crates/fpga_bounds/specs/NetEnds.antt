-- What a netlist and its placement say of a net: where it begins and ends.
use Rattle.std.specs.Prelude.{◌≡◌, ◌||◌, Bool, List, not, Option, Some}
use Rattle.std.specs.BTreeSet.{BTreeSet}
use Rattle.std.specs.List.{list_all, list_any}
use Rattle.std.specs.Option.{option_to_list}
use Rattle.fpga_text.specs.Bytes.{Bytes}
use Rattle.fpga_types.specs.Problem.{RoutingProblem}
use Rattle.fpga_types.specs.Terminals.{driver_of, is_terminal, net_named, sinks_of}
use Rattle.fpga_types.specs.declared.netlist.Net.{Net}
use Rattle.fpga_types.specs.declared.problem.Terminal.{Terminal}
use Rattle.fpga_types.specs.declared.route.Elem.{Elem}
use Rattle.fpga_types.specs.declared.route.ElemKind.TheVariants.{Sink}
use Rattle.fpga_bounds.specs.Keys.{has_elem}
use Rattle.fpga_bounds.specs.declared.keys.ElemKey.{ElemKey}

-- a problem, and the name of one of its nets
pub record NamedNet : Type 0 where
  pub problem : RoutingProblem
  pub name : Bytes

-- the SINK line at a terminal
abbrev pub sink_line : Terminal → Elem
sink_line at =
    record { kind = Sink; x = at.x; y = at.y; label = at.label; number = at.number; line = 0 }

-- the SINK line at the terminal that a line names
abbrev pub as_sink : Elem → Elem
as_sink e = record e { kind = Sink; line = 0 }

-- the set has the SINK lines at exactly these terminals
abbrev pub HasTerminals : BTreeSet ElemKey → List Terminal → Type 0
HasTerminals set terminals = (e : Elem) → has_elem set (as_sink e)
    ≡ list_any (is_terminal e) terminals

-- the set afterwards has the SINK line at the terminal too, if there is one
abbrev pub GainsTerminal : BTreeSet ElemKey → Option Terminal → BTreeSet ElemKey → Type 0
GainsTerminal before terminal after = (e : Elem) → has_elem after (as_sink e)
    ≡ (has_elem before (as_sink e) || list_any (is_terminal e) (option_to_list terminal))

-- the net is the one with the name; this is its driver, and these are its sinks
pub record AreEnds (of : NamedNet) (net : Net) (driver : Option Terminal) (sinks : BTreeSet ElemKey)
    : Type 0 where
  pub named : net_named of.problem of.name ≡ Some net
  pub driver_is : driver ≡ driver_of of.problem net
  pub sinks_are : HasTerminals sinks (sinks_of of.problem net)

-- one of the terminals has no SINK line among these
abbrev pub lacks_one : BTreeSet ElemKey → List Terminal → Bool
lacks_one seen terminals = not (list_all (λ at. has_elem seen (sink_line at)) terminals)

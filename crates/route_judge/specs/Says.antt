-- What a routed file says: a routing of a placement, with the wires and the pins on its lines.
use Rattle.std.specs.Prelude.{◌≡◌, ◌≢◌, ℕ, true, false, IsTrue, List, All, AllPairs, Any, Contains, filter_map, slice_get, take, None, Some}
use Rattle.std.specs.List.{last_or, list_any}
use Rattle.std.specs.Option.{option_map_or}
use Rattle.fpga_types.specs.Fits.{has_sink, is_known}
use Rattle.fpga_types.specs.Kinds.{is_sink, is_source, may_follow}
use Rattle.fpga_types.specs.Placed.{IsPlacedRouting, NetWires, net_pins}
use Rattle.fpga_types.specs.Problem.{PlacedNetlist}
use Rattle.fpga_types.specs.Slots.{elem_pin}
use Rattle.fpga_types.specs.Terminals.{named_terminal, sinks_in}
use Rattle.fpga_types.specs.declared.grid.PinAt.{PinAt}
use Rattle.fpga_types.specs.declared.netlist.Net.{Net}
use Rattle.fpga_types.specs.declared.problem.Terminal.{Terminal}
use Rattle.fpga_types.specs.declared.route.Elem.{Elem}
use Rattle.fpga_types.specs.declared.route.RouteNet.{RouteNet}
use Rattle.fpga_types.specs.declared.route.RouteText.{RouteText}
use Rattle.route_judge.specs.Judged.{problem_with}
use Rattle.route_verify.specs.Depths.{same_tracked}
use Rattle.route_verify.specs.Lines.{trace_named}
use Rattle.route_verify.specs.Wiring.{elem_wire}

-- no two nets have one name, and no ordinary net ends twice at one terminal
pub record HasOwnEnds (placed : PlacedNetlist) : Type 0 where
  pub names : AllPairs (λ (a b : Net). a.name ≢ b.name) placed.netlist.nets
  pub ends : (number : ℕ) (net : Net) → slice_get placed.netlist.nets number ≡ Some net
      → net.global ≡ false → AllPairs (λ (s t : Terminal). s ≢ t) (sinks_in placed net)

-- each net of the file is one of the netlist, in its form, and has one Net line
pub record AreNetsOf (placed : PlacedNetlist) (found : RouteText) : Type 0 where
  pub known : All (λ (net : RouteNet).
      IsTrue (is_known (problem_with placed found) net.name net.global)) found.nets
  pub once : AllPairs (λ (a b : RouteNet). a.name ≢ b.name) found.nets

-- the line may stand behind these in a tree: a SOURCE behind none, and else of a kind that may
-- follow; behind a SINK a line that stood before, a channel line with its track
pub record StandsInTree (before : List Elem) (e : Elem) : Type 0 where
  pub order : IsTrue (option_map_or (λ (d : Elem). may_follow d.kind e.kind) (last_or None before)
      (is_source e.kind))
  pub branch : (d : Elem) → last_or None before ≡ Some d → is_sink d.kind ≡ true
      → IsTrue (list_any (same_tracked e) before)

-- the lines are those of a tree that ends at these terminals, each of which has one SINK line
pub record IsTreeTo (sinks : List Terminal) (elems : List Elem) : Type 0 where
  pub lines : (k : ℕ) (e : Elem) → slice_get elems k ≡ Some e → StandsInTree (take k elems) e
  pub each : All (λ (at : Terminal). IsTrue (has_sink elems at)) sinks
  pub own : All (λ (e : Elem). is_sink e.kind ≡ true → Contains sinks (named_terminal e)) elems
  pub once : AllPairs (λ (a b : Elem). is_sink a.kind ≡ true → is_sink b.kind ≡ true
      → named_terminal a ≢ named_terminal b) elems

-- what a net has is on these lines: its wires are those of the channel lines, in turn, and each of
-- its pins is that of a pin line
pub record IsOnLines (elems : List Elem) (has : NetWires) : Type 0 where
  pub wires : has.wires ≡ filter_map elem_wire elems
  pub pins : All (λ (pin : PinAt). Any (λ (e : Elem). elem_pin e ≡ Some pin) elems) (net_pins has)

-- the file says this routing of the placement: its nets are those of the netlist; the lines of each
-- ordinary net, found by name, are those of a tree to its sinks, and what the net has is on them
pub record SaysRouting (placed : PlacedNetlist) (width : ℕ) (found : RouteText) (has : ℕ → NetWires)
    : Type 0 where
  pub routing : IsPlacedRouting placed width has
  pub nets : AreNetsOf placed found
  pub trees : (number : ℕ) (net : Net) → slice_get placed.netlist.nets number ≡ Some net
      → net.global ≡ false → IsTreeTo (sinks_in placed net) (trace_named found.nets net.name)
  pub lines : (number : ℕ) (net : Net) → slice_get placed.netlist.nets number ≡ Some net
      → net.global ≡ false → IsOnLines (trace_named found.nets net.name) (has number)

-- Worked rows of pinned tracks, each by computation.
use Rattle.std.proofs.Common.{◌≡◌, ℕ, Bool, true, false, List, [], ◌∷◌, length, drop, Some, pos, refl}
use Rattle.fpga_types.specs.Problem.{RoutingProblem}
use Rattle.fpga_types.specs.declared.arch.Arch.{Arch}
use Rattle.fpga_types.specs.declared.arch.Pattern.{Pattern}
use Rattle.fpga_types.specs.declared.arch.Pattern.TheVariants.{Subset, Wilton}
use Rattle.fpga_types.specs.declared.arch.PinSpec.{PinSpec}
use Rattle.fpga_types.specs.declared.netlist.Netlist.{Netlist}
use Rattle.fpga_types.specs.declared.placement.Placement.{Placement}
use Rattle.fpga_types.specs.declared.route.Elem.{Elem}
use Rattle.fpga_types.specs.declared.route.ElemKind.{ElemKind}
use Rattle.fpga_types.specs.declared.route.ElemKind.TheVariants.{ChanX, ChanY, Ipin, Opin, Sink, Source}
use Rattle.fpga_types.specs.declared.route.Label.{Label}
use Rattle.fpga_types.specs.declared.route.Label.TheVariants.{Class, Pad, Pin, Track}
use Rattle.fpga_types.specs.declared.route.RouteNet.{RouteNet}
use Rattle.fpga_types.specs.declared.route.RouteText.{RouteText}
use Rattle.sat_clause.specs.Formula.{Cnf}
use Rattle.sat_clause.specs.Literal.{lit}
use Rattle.problem_facts.specs.Full.{asymmetry_of, is_symmetric}
use Rattle.route_pinned.specs.Pinned.{pinned_cnf}
use Rattle.route_pinned.specs.Pins.{pins}
use Rattle.problem_facts.specs.declared.full.Asymmetry.TheVariants.{Pads, Pattern as OfPattern}

-- a pin on the bottom side
abbrev spec : ℕ → Bool → Bool → PinSpec
spec class output global = record {
  class = class;
  output = output;
  global = global;
  sides = record { left = false; right = false; bottom = true; top = false };
}

-- two pads at a place of the border, four inputs, an output and a global input
abbrev arch_of : Pattern → (pad : ℕ) → Arch
arch_of pattern pad = record {
  io_rat = 2;
  pins = spec 0 false false ∷ spec 0 false false ∷ spec 0 false false ∷ spec 0 false false
      ∷ spec 1 true false ∷ spec 2 false true ∷ [];
  pattern = pattern;
  fc = record { fractional = true; output = 1000000; input = 1000000; pad = pad };
}

abbrev elem : ElemKind → (x y : ℕ) → Label → (number : ℕ) → Elem
elem kind x y label number =
    record { kind = kind; x = x; y = y; label = label; number = number; line = 0 }

abbrev net : ℕ → List Elem → RouteNet
net k elems = record { k = k; name = []; global = false; line = 0; elems = elems; kept = [] }

abbrev route_on : List RouteNet → RouteText
route_on nets = record { grid = record { nx = 2; ny = 1 }; grid_line = 1; lines = 30; nets = nets }

-- three nets, of which each two share a cell
abbrev junction : RouteText
junction = route_on (
    net 0 (elem Source 1 0 Pad 0 ∷ elem Opin 1 0 Pad 0 ∷ elem ChanX 1 0 Track 0
    ∷ elem ChanY 1 1 Track 0 ∷ elem Ipin 1 1 Pin 3 ∷ elem Sink 1 1 Class 0 ∷ [])
    ∷ net 1 (elem Source 2 0 Pad 0 ∷ elem Opin 2 0 Pad 0 ∷ elem ChanX 2 0 Track 0
    ∷ elem ChanY 1 1 Track 0 ∷ elem Ipin 2 1 Pin 1 ∷ elem Sink 2 1 Class 0 ∷ [])
    ∷ net 2 (elem Source 1 0 Pad 1 ∷ elem Opin 1 0 Pad 1 ∷ elem ChanX 1 0 Track 0
    ∷ elem ChanX 2 0 Track 0 ∷ elem Ipin 2 0 Pad 1 ∷ elem Sink 2 0 Pad 1 ∷ [])
    ∷ [])

-- one net with three sinks
abbrev branch : RouteText
branch = route_on (
    net 0 (elem Source 1 0 Pad 0 ∷ elem Opin 1 0 Pad 0 ∷ elem ChanX 1 0 Track 0
    ∷ elem ChanY 1 1 Track 0 ∷ elem Ipin 1 1 Pin 3 ∷ elem Sink 1 1 Class 0
    ∷ elem ChanX 1 0 Track 0 ∷ elem ChanX 2 0 Track 0 ∷ elem Ipin 2 0 Pad 0 ∷ elem Sink 2 0 Pad 0
    ∷ elem ChanX 2 0 Track 0 ∷ elem Ipin 2 1 Pin 0 ∷ elem Sink 2 1 Class 0 ∷ [])
    ∷ [])

module _ (netlist : Netlist) (placement : Placement) where
  abbrev problem : Pattern → (pad : ℕ) → RouteText → RoutingProblem
  problem pattern pad route = record {
    arch = arch_of pattern pad;
    netlist = netlist;
    placement = placement;
    route = route;
  }

  abbrev subset_cnf : Cnf
  subset_cnf = pinned_cnf 2 (problem Subset 1000000 junction)

  -- 12 variables and 26 clauses, of which the last two give the slots 0 and 4 their tracks
  junction_vars : subset_cnf.vars ≡ 12
  junction_vars = refl

  junction_count : length subset_cnf.clauses ≡ 26
  junction_count = refl

  junction_pins : pins 2 (problem Subset 1000000 junction) ≡ (0, 0) ∷ (4, 1) ∷ []
  junction_pins = refl

  junction_last : drop 24 subset_cnf.clauses
      ≡ (lit (pos 1) ∷ []) ∷ (lit (pos 10) ∷ []) ∷ []
  junction_last = refl

  -- at width 1 there is one track to give
  junction_narrow : pins 1 (problem Subset 1000000 junction) ≡ (0, 0) ∷ []
  junction_narrow = refl

  -- another pattern
  wilton_why : asymmetry_of 2 (problem Wilton 1000000 junction) ≡ Some OfPattern
  wilton_why = refl

  wilton_count : length (pinned_cnf 2 (problem Wilton 1000000 junction)).clauses ≡ 24
  wilton_count = refl

  -- pads that open half of the tracks open all at width 1, and not at width 2
  half_narrow : is_symmetric 1 (problem Subset 500000 branch) ≡ true
  half_narrow = refl

  half_wide : asymmetry_of 2 (problem Subset 500000 branch) ≡ Some Pads
  half_wide = refl

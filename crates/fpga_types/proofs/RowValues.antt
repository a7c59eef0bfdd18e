-- Values for the worked rows: the architecture, netlist, placement and route of two small problems.
use Rattle.std.specs.Prelude.{ℕ, true, false, List, [], ◌∷◌, replicate, codes, Some, None}
use Rattle.fpga_types.specs.Fc.{Fc}
use Rattle.fpga_types.specs.Problem.{RoutingProblem}
use Rattle.fpga_types.specs.Size.{Size}
use Rattle.fpga_types.specs.declared.arch.Arch.{Arch}
use Rattle.fpga_types.specs.declared.arch.Pattern.{Pattern}
use Rattle.fpga_types.specs.declared.arch.Pattern.TheVariants.{Subset}
use Rattle.fpga_types.specs.declared.arch.PinSpec.{PinSpec}
use Rattle.fpga_types.specs.declared.arch.SideSet.{SideSet}
use Rattle.fpga_types.specs.declared.netlist.Block.{Block}
use Rattle.fpga_types.specs.declared.netlist.BlockKind.{BlockKind}
use Rattle.fpga_types.specs.declared.netlist.BlockKind.TheVariants.{Input, Output, Logic}
use Rattle.fpga_types.specs.declared.netlist.Net.{Net}
use Rattle.fpga_types.specs.declared.netlist.Netlist.{Netlist}
use Rattle.fpga_types.specs.declared.netlist.PinRef.{PinRef}
use Rattle.fpga_types.specs.declared.placement.Place.{Place}
use Rattle.fpga_types.specs.declared.placement.Placement.{Placement}
use Rattle.fpga_types.specs.declared.route.Elem.{Elem}
use Rattle.fpga_types.specs.declared.route.ElemKind.{ElemKind}
use Rattle.fpga_types.specs.declared.route.ElemKind.TheVariants.{Source, Opin, ChanX, ChanY, Ipin, Sink}
use Rattle.fpga_types.specs.declared.route.Label.{Label}
use Rattle.fpga_types.specs.declared.route.Label.TheVariants.{Class, Pin, Pad, Track}
use Rattle.fpga_types.specs.declared.route.RouteNet.{RouteNet}
use Rattle.fpga_types.specs.declared.route.RouteText.{RouteText}

abbrev pub left_side : SideSet
left_side = record { left = true; right = false; bottom = false; top = false }

abbrev pub right_side : SideSet
right_side = record { left = false; right = true; bottom = false; top = false }

abbrev pub bottom_side : SideSet
bottom_side = record { left = false; right = false; bottom = true; top = false }

abbrev pub top_side : SideSet
top_side = record { left = false; right = false; bottom = false; top = true }

abbrev pub input_pin : SideSet → PinSpec
input_pin sides = record { class = 0; output = false; global = false; sides = sides }

-- four inputs of class 0 on the four sides, an output of class 1 on the bottom, and a global output
-- of class 2 on the top
abbrev pub six_pins : List PinSpec
six_pins =
    input_pin bottom_side ∷ input_pin left_side ∷ input_pin top_side ∷ input_pin right_side
    ∷ record { class = 1; output = true; global = false; sides = bottom_side }
    ∷ record { class = 2; output = true; global = true; sides = top_side } ∷ []

-- boxes by shares of the width, in millionths
abbrev pub shares : ℕ → ℕ → ℕ → Fc
shares output input pad = record { fractional = true; output = output; input = input; pad = pad }

abbrev pub arch_of : Pattern → Fc → Arch
arch_of pattern fc = record { io_rat = 2; pins = six_pins; pattern = pattern; fc = fc }

-- boxes that open each track
abbrev pub full : Fc
full = shares 1000000 1000000 1000000

abbrev pub two_by_one : Size
two_by_one = record { nx = 2; ny = 1 }

abbrev pub pin_of : ℕ → ℕ → PinRef
pin_of block pin = record { block = block; pin = pin }

abbrev pub pad_block : List ℕ → BlockKind → ℕ → Block
pad_block name kind net = record { name = name; kind = kind; pins = Some net ∷ [] }

abbrev pub logic_block : List ℕ → ℕ → Block
logic_block name net = record { name = name; kind = Logic; pins = Some net ∷ replicate 5 None }

abbrev pub driven_net : List ℕ → PinRef → List PinRef → Net
driven_net name driver sinks = record {
  name = name;
  global = false;
  driver = Some driver;
  sinks = sinks;
}

abbrev pub place_at : ℕ → ℕ → ℕ → Place
place_at x y sub = record { x = x; y = y; sub = sub }

abbrev pub junction_netlist : Netlist
junction_netlist = record {
  nets = driven_net (codes "a") (pin_of 0 0) (pin_of 4 0 ∷ [])
      ∷ driven_net (codes "b") (pin_of 1 0) (pin_of 5 0 ∷ [])
      ∷ driven_net (codes "c") (pin_of 2 0) (pin_of 3 0 ∷ []) ∷ [];
  blocks = pad_block (codes "pa") Input 0 ∷ pad_block (codes "pb") Input 1
      ∷ pad_block (codes "pc") Input 2
      ∷ pad_block (codes "qc") Output 2 ∷ logic_block (codes "ca") 0
      ∷ logic_block (codes "cb") 1 ∷ [];
}

abbrev pub junction_placement : Placement
junction_placement = record {
  grid = two_by_one;
  places = place_at 1 0 0 ∷ place_at 2 0 0 ∷ place_at 1 0 1 ∷ place_at 2 0 1 ∷ place_at 1 1 0
      ∷ place_at 2 1 0 ∷ [];
}

-- an element line
abbrev pub elem : ℕ → ElemKind → ℕ → ℕ → Label → ℕ → Elem
elem line kind x y label number = record {
  kind = kind;
  x = x;
  y = y;
  label = label;
  number = number;
  line = line;
}

-- a net of a route
abbrev pub routed_net : ℕ → List ℕ → ℕ → List Elem → RouteNet
routed_net k name line elems = record {
  k = k;
  name = name;
  global = false;
  line = line;
  elems = elems;
  kept = [];
}

-- the three nets of the junction, with a track for each of its six channel lines
abbrev pub net_a : ℕ → ℕ → RouteNet
net_a t u = routed_net 0 (codes "a") 5
    (elem 7 Source 1 0 Pad 0 ∷ elem 8 Opin 1 0 Pad 0 ∷ elem 9 ChanX 1 0 Track t
    ∷ elem 10 ChanY 1 1 Track u ∷ elem 11 Ipin 1 1 Pin 3 ∷ elem 12 Sink 1 1 Class 0 ∷ [])

abbrev pub net_b : ℕ → ℕ → RouteNet
net_b t u = routed_net 1 (codes "b") 14
    (elem 16 Source 2 0 Pad 0 ∷ elem 17 Opin 2 0 Pad 0 ∷ elem 18 ChanX 2 0 Track t
    ∷ elem 19 ChanY 1 1 Track u ∷ elem 20 Ipin 2 1 Pin 1 ∷ elem 21 Sink 2 1 Class 0 ∷ [])

abbrev pub net_c : ℕ → ℕ → RouteNet
net_c t u = routed_net 2 (codes "c") 23
    (elem 25 Source 1 0 Pad 1 ∷ elem 26 Opin 1 0 Pad 1 ∷ elem 27 ChanX 1 0 Track t
    ∷ elem 28 ChanX 2 0 Track u ∷ elem 29 Ipin 2 0 Pad 1 ∷ elem 30 Sink 2 0 Pad 1 ∷ [])

-- a route of two by one, of so many lines
abbrev pub route_with : ℕ → List RouteNet → RouteText
route_with lines nets = record { grid = two_by_one; grid_line = 1; lines = lines; nets = nets }

abbrev pub junction_route : RouteText
junction_route = route_with 30 (net_a 0 0 ∷ net_b 0 0 ∷ net_c 0 0 ∷ [])

abbrev pub junction_of : Arch → RouteText → RoutingProblem
junction_of arch route = record {
  arch = arch;
  netlist = junction_netlist;
  placement = junction_placement;
  route = route;
}

-- the junction with this pattern
abbrev pub junction : Pattern → RoutingProblem
junction pattern = junction_of (arch_of pattern full) junction_route

abbrev pub branch_netlist : Netlist
branch_netlist = record {
  nets = driven_net (codes "a") (pin_of 0 0) (pin_of 1 0 ∷ pin_of 2 0 ∷ pin_of 3 0 ∷ []) ∷ [];
  blocks = pad_block (codes "pa") Input 0 ∷ pad_block (codes "qa") Output 0
      ∷ logic_block (codes "ca") 0 ∷ logic_block (codes "cb") 0 ∷ [];
}

abbrev pub branch_placement : Placement
branch_placement = record {
  grid = two_by_one;
  places = place_at 1 0 0 ∷ place_at 2 0 0
      ∷ place_at 1 1 0 ∷ place_at 2 1 0 ∷ [];
}

abbrev pub branch_route : RouteText
branch_route = route_with 19 (routed_net 0 (codes "a") 5
    (elem 7 Source 1 0 Pad 0 ∷ elem 8 Opin 1 0 Pad 0 ∷ elem 9 ChanX 1 0 Track 0
    ∷ elem 10 ChanY 1 1 Track 0 ∷ elem 11 Ipin 1 1 Pin 3 ∷ elem 12 Sink 1 1 Class 0
    ∷ elem 13 ChanX 1 0 Track 0 ∷ elem 14 ChanX 2 0 Track 0 ∷ elem 15 Ipin 2 0 Pad 0
    ∷ elem 16 Sink 2 0 Pad 0
    ∷ elem 17 ChanX 2 0 Track 0 ∷ elem 18 Ipin 2 1 Pin 0 ∷ elem 19 Sink 2 1 Class 0 ∷ []) ∷ [])

-- the branch with these boxes
abbrev pub branch : Fc → RoutingProblem
branch fc = record {
  arch = arch_of Subset fc;
  netlist = branch_netlist;
  placement = branch_placement;
  route = branch_route;
}

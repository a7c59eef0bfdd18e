-- Worked rows of what can be wrong with a routing problem: each line that is refused, by its least
-- code.
use Rattle.std.proofs.Common.{◌≡◌, ℕ, ◌+◌, List, [], ◌∷◌, ◌++◌, refl}
use Rattle.std.specs.Prelude.{◌-◌, min, true, map, filter_map, take, drop, codes, Option}
use Rattle.fpga_text.specs.declared.fault.TextFault.{TextFault}
use Rattle.fpga_text.specs.declared.fault.TextFault.TheVariants.{Bad}
use Rattle.fpga_types.specs.Fits.{problem_faults}
use Rattle.fpga_types.specs.Problem.{RoutingProblem}
use Rattle.fpga_types.specs.declared.arch.Pattern.TheVariants.{Subset, Wilton}
use Rattle.fpga_types.specs.declared.netlist.Net.{Net}
use Rattle.fpga_types.specs.declared.netlist.Netlist.{Netlist}
use Rattle.fpga_types.specs.declared.netlist.PinRef.{PinRef}
use Rattle.fpga_types.specs.declared.route.Elem.{Elem}
use Rattle.fpga_types.specs.declared.route.ElemKind.TheVariants.{Source, Opin, ChanX, ChanY, Ipin, Sink}
use Rattle.fpga_types.specs.declared.route.Label.TheVariants.{Class, Pin, Pad, Track}
use Rattle.fpga_types.specs.declared.route.RouteNet.{RouteNet}
use Rattle.fpga_types.specs.declared.route.RouteText.{RouteText}
use Rattle.fpga_types.proofs.RowValues.{arch_of, branch, branch_route, elem, full, junction, junction_netlist, junction_of, junction_placement, net_a, net_b, net_c, route_with}

-- what is wrong with the lines that are refused
abbrev pub found : RoutingProblem → List TextFault
found p = filter_map (λ (fault : Option TextFault). fault) (problem_faults p)

-- the junction with another route
abbrev with_route : RouteText → RoutingProblem
with_route route = junction_of (arch_of Subset full) route

-- the net with another element in this place
abbrev with_elem_at : ℕ → Elem → RouteNet → RouteNet
with_elem_at i e net = record net { elems = take i net.elems ++ e ∷ drop (i + 1) net.elems }

-- the net with a new element before this place
abbrev with_more_at : ℕ → Elem → RouteNet → RouteNet
with_more_at i e net = record net { elems = take i net.elems ++ e ∷ drop i net.elems }

-- the net without the element in this place
abbrev without_at : ℕ → RouteNet → RouteNet
without_at i net = record net { elems = take i net.elems ++ drop (i + 1) net.elems }

-- the junction's nets with the first, the second or the third in another form
abbrev change_a : (RouteNet → RouteNet) → RoutingProblem
change_a f = with_route (route_with 30 (f (net_a 0 0) ∷ net_b 0 0 ∷ net_c 0 0 ∷ []))

abbrev change_b : (RouteNet → RouteNet) → RoutingProblem
change_b f = with_route (route_with 30 (net_a 0 0 ∷ f (net_b 0 0) ∷ net_c 0 0 ∷ []))

abbrev change_c : (RouteNet → RouteNet) → RoutingProblem
change_c f = with_route (route_with 30 (net_a 0 0 ∷ net_b 0 0 ∷ f (net_c 0 0) ∷ []))

-- the element one line earlier
abbrev earlier : Elem → Elem
earlier e = record e { line = e.line - 1 }

-- block 5 is given up for block 4
abbrev to_ca : PinRef → PinRef
to_ca pin = record pin { block = min pin.block 4 }

-- the branch with more lines at its end
abbrev change_branch : List Elem → RoutingProblem
change_branch more = let p : RoutingProblem = branch full in
    record p {
      route = record branch_route {
        nets = map {A = RouteNet} {B = RouteNet} (λ net. record net {
          elems = net.elems ++ more;
        }) branch_route.nets;
      };
    }

pub junction_fits : found (junction Subset) ≡ []
junction_fits = refl

pub junction_fits_wilton : found (junction Wilton) ≡ []
junction_fits_wilton = refl

pub branch_fits : found (branch full) ≡ []
branch_fits = refl

-- the placement's array has one row more
pub other_array : let p : RoutingProblem = junction Subset in
    found (record p {
      placement = record junction_placement {
        grid = record {
          nx = 2;
          ny = 2;
        };
      };
    }) ≡ Bad 1 501 ∷ []
other_array = refl

-- the route ends after line 21
pub net_missing : found (with_route (route_with 21 (net_a 0 0 ∷ net_b 0 0 ∷ []))) ≡ Bad 22 502 ∷ []
net_missing = refl

-- a Net line with a strange name, whose lines have no driver and no sink; net b has no line
pub strange_name : found (change_b (λ net. record net { name = codes "x" })) ≡ Bad 14 503
    ∷ Bad 16 505 ∷ Bad 17 508 ∷ Bad 21 506 ∷ Bad 31 502 ∷ []
strange_name = refl

-- an ordinary net in the form of a global one
pub not_global : found (change_b (λ net. record net { global = true; elems = [] })) ≡ Bad 14 503
    ∷ []
not_global = refl

-- net a twice
pub name_again : take 1 (found (change_b (λ net. record net { name = codes "a" }))) ≡ Bad 14 504
    ∷ []
name_again = refl

-- line 16 names another pad
pub other_source : found (change_b (with_elem_at 0 (elem 16 Source 2 0 Pad 1))) ≡ Bad 16 505 ∷ []
other_source = refl

-- line 12 names a class that is no sink, nor the class of the IPIN: the lesser code is told
pub other_sink : found (change_a (with_elem_at 5 (elem 12 Sink 1 1 Class 1))) ≡ Bad 12 506 ∷ []
other_sink = refl

-- a sink again, and a net without its sink
pub sink_again : found (change_branch (elem 20 ChanY 1 1 Track 0 ∷ elem 21 Ipin 2 1 Pin 1
    ∷ elem 22 Sink 2 1 Class 0 ∷ [])) ≡ Bad 22 507 ∷ []
sink_again = refl

pub sink_missing : found (change_a (without_at 5)) ≡ Bad 11 507 ∷ []
sink_missing = refl

pub no_lines : found (change_b (λ net. record net { elems = [] })) ≡ Bad 14 507 ∷ []
no_lines = refl

-- an output pin for an input, a global pin for the driver, a SINK of another place
pub output_for_input : found (change_a (with_elem_at 4 (elem 11 Ipin 1 1 Pin 4))) ≡ Bad 11 508
    ∷ Bad 12 508 ∷ []
output_for_input = refl

pub no_such_pin : found (change_a (with_elem_at 4 (elem 11 Ipin 1 1 Pin 6))) ≡ Bad 11 508
    ∷ Bad 12 508 ∷ []
no_such_pin = refl

pub other_driver_pad : found (change_b (with_elem_at 1 (elem 17 Opin 2 0 Pad 1))) ≡ Bad 17 508
    ∷ Bad 29 513 ∷ []
other_driver_pad = refl

-- line 19 is a cell that pin 1 of line 20 does not touch
pub not_touched : found (change_b (with_elem_at 3 (elem 19 ChanY 2 1 Track 0))) ≡ Bad 20 509 ∷ []
not_touched = refl

-- pad 0 does not touch the cell of line 9
pub opin_not_touched : found (change_a (with_elem_at 2 (elem 9 ChanX 2 0 Track 0))) ≡ Bad 9 509 ∷ []
opin_not_touched = refl

-- line 28 does not meet line 27; nor does the pad touch it
pub no_meeting : found (change_c (with_elem_at 3 (elem 28 ChanX 2 1 Track 0))) ≡ Bad 28 510
    ∷ Bad 29 509 ∷ []
no_meeting = refl

-- an earlier cell again
pub cell_again : found (change_c (with_more_at 4 (elem 29 ChanX 1 0 Track 0))) ≡ Bad 29 511
    ∷ Bad 29 509 ∷ []
cell_again = refl

-- a branch from nowhere, which is the last line and no SINK
pub strange_branch : found (change_c (λ net. record net {
  elems = net.elems ++ elem 31 ChanX 1 1 Track 0 ∷ [];
})) ≡ Bad 31 512 ∷ []
strange_branch = refl

-- a netlist in which net b ends at block ca too
abbrev shared_netlist : Netlist
shared_netlist = record junction_netlist {
  nets = map {A = Net} {B = Net} (λ net. record net {
    sinks = map to_ca net.sinks;
  }) junction_netlist.nets;
}

-- net b at the pin of net a
pub pin_again : let p : RoutingProblem = change_b (λ net. record net {
  elems = take 4 net.elems ++ elem 20 Ipin 1 1 Pin 3 ∷ elem 21 Sink 1 1 Class 0 ∷ [];
}) in
    found (record p { netlist = shared_netlist }) ≡ Bad 20 513 ∷ []
pin_again = refl

-- no OPIN after the SOURCE
pub no_opin : found (change_a (λ net. record net {
  elems = take 1 net.elems ++ map earlier (drop 2 net.elems);
})) ≡ Bad 8 514 ∷ []
no_opin = refl

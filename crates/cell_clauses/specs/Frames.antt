-- Windows of the array: some corners, the cells that have one of them, and the nets of which these
-- hold a terminal.
use Rattle.std.specs.Prelude.{ℕ, Bool, ◌||◌, List, [], map, flat_map, filter_map, length, slice_get, Option, None, Some, option_and_then, if◌then◌else◌}
use Rattle.std.specs.List.{enumerate_from, list_any, range_with_len}
use Rattle.std.specs.Option.{option_map_or}
use Rattle.fpga_types.specs.Problem.{PlacedNetlist}
use Rattle.fpga_types.specs.Size.{Size}
use Rattle.fpga_types.specs.Terminals.{driver_in, sinks_in}
use Rattle.fpga_types.specs.declared.arch.Arch.{Arch}
use Rattle.fpga_types.specs.declared.grid.Cell.{Cell}
use Rattle.fpga_types.specs.declared.netlist.Net.{Net}
use Rattle.fpga_types.specs.declared.problem.Terminal.{Terminal}
use Rattle.route_bound.specs.Corners.{Corners, has_corner_in}
use Rattle.route_bound.specs.Lying.{Cells, cells_in, lies_in}
use Rattle.cell_clauses.specs.declared.window.Arrival.{Arrival}
use Rattle.cell_clauses.specs.declared.window.WindowNet.{WindowNet}

-- each cell that the terminal touches is in the set
abbrev pub is_held : PlacedNetlist → Cells → Terminal → Bool
is_held placed cells at = lies_in placed.arch placed.placement.grid cells at

-- the net with this number, if it is an ordinary one that a terminal drives, and the set holds all
-- cells that this touches, or all that one of its sinks does
abbrev pub driven_net : PlacedNetlist → Cells → (number : ℕ) → Net → (driver : Terminal)
    → Option WindowNet
driven_net placed cells number net driver =
    if list_any (λ at. is_held placed cells driver || is_held placed cells at)
    (sinks_in placed net)
    then Some (record { number = number; driver = driver }) else None

abbrev pub ordinary_net : PlacedNetlist → Cells → (number : ℕ) → Net → Option WindowNet
ordinary_net placed cells number net = if net.global then None
    else option_and_then (driven_net placed cells number net) (driver_in placed net)

abbrev pub held_net : PlacedNetlist → Cells → (number : ℕ) → Option WindowNet
held_net placed cells number = option_and_then (ordinary_net placed cells number)
    (slice_get placed.netlist.nets number)

-- the nets of which a set of cells holds a terminal, in the order of the netlist
abbrev pub held_nets : PlacedNetlist → Cells → List WindowNet
held_nets placed cells = filter_map (held_net placed cells)
    (range_with_len 0 (length placed.netlist.nets))

-- the sinks of the net with this number
abbrev pub sinks_of_number : PlacedNetlist → (number : ℕ) → List Terminal
sinks_of_number placed number =
    option_map_or (sinks_in placed) (slice_get placed.netlist.nets number) []

-- the sinks of a window's net that stands at this place among them
abbrev pub arrivals_of : PlacedNetlist → ℕ × WindowNet → List Arrival
arrivals_of placed net =
    map (λ at. record { net = net.0; at = at }) (sinks_of_number placed net.1.number)

-- the sinks of all nets of a window, net by net
abbrev pub window_arrivals : PlacedNetlist → List WindowNet → List Arrival
window_arrivals placed nets = flat_map (arrivals_of placed) (enumerate_from 0 nets)

-- what clauses speak of: an array with pins, some of its corners, the cells that have one of these,
-- some nets with their sinks, and how many tracks there are
pub record Frame : Type 0 where
  pub arch : Arch
  pub grid : Size
  pub corners : Corners
  pub cells : List Cell
  pub nets : List WindowNet
  pub arrivals : List Arrival
  pub width : ℕ

-- a window of a placed netlist with so many tracks
abbrev pub frame_of : PlacedNetlist → Corners → (width : ℕ) → Frame
frame_of placed corners width = record {
  arch = placed.arch;
  grid = placed.placement.grid;
  corners = corners;
  cells = cells_in placed.placement.grid (has_corner_in corners);
  nets = held_nets placed (has_corner_in corners);
  arrivals = window_arrivals placed (held_nets placed (has_corner_in corners));
  width = width;
}

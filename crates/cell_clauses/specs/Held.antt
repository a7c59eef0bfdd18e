-- Placed netlists and windows as the code holds them.
use Rattle.std.specs.Prelude.{Bool, false, ◌||◌}
use Rattle.std.specs.List.{list_any}
use Rattle.std.specs.Option.{option_map_or}
use Rattle.fpga_types.specs.Problem.{PlacedNetlist}
use Rattle.fpga_types.specs.Terminals.{terminal_in}
use Rattle.fpga_types.specs.Touching.{touches}
use Rattle.fpga_types.specs.declared.netlist.PinRef.{PinRef}
use Rattle.route_bound.specs.Corners.{has_corner_in}
use Rattle.route_bound.specs.Lying.{Cells}
use Rattle.route_bound.specs.Placed.{placed_netlist}
use Rattle.route_bound.specs.Ranges.{corners_of}
use Rattle.route_bound.specs.declared.range.CornerRange.{CornerRange}
use Rattle.cell_clauses.specs.Clauses.{meets}
use Rattle.cell_clauses.specs.Frames.{Frame, is_held}
use Rattle.cell_clauses.specs.declared.frame.PlacedWindow.{PlacedWindow}
use Rattle.cell_clauses.specs.declared.near.Near.{Near}
use Rattle.cell_clauses.specs.declared.near.Near.TheVariants.{Met, Reached, Touched}
use Rattle.cell_clauses.specs.declared.placed.Placed.{Placed}

-- the placed netlist that is lent
abbrev pub placed_of : Placed → PlacedNetlist
placed_of p = placed_netlist p.arch.now p.netlist.now p.placement.now

-- the frame that a window is
abbrev pub frame_in : PlacedWindow → Frame
frame_in w = record {
  arch = w.arch.now;
  grid = w.grid;
  corners = corners_of w.range;
  cells = w.cells.items;
  nets = w.nets.items;
  arrivals = w.arrivals.items;
  width = w.sizes.width;
}

-- the cells that are near
abbrev pub near_cells : Frame → Near → Cells
near_cells f (Touched pin) = touches f.arch f.grid pin
near_cells f (Reached pins) = λ cell. list_any (λ pin. touches f.arch f.grid pin cell) pins.now
near_cells f (Met cell) = meets f cell

-- the sink at the pin is there, and it is held by the cells with a corner of a rectangle, or its
-- driver is
abbrev pub is_sink_held : PlacedNetlist → CornerRange → (held : Bool) → PinRef → Bool
is_sink_held placed range held pin =
    option_map_or (λ at. held || is_held placed (has_corner_in (corners_of range)) at)
    (terminal_in placed pin) false

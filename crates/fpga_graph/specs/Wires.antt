-- The wires that a wire is joined to, and those that a pin opens, as whole lists.
use Rattle.std.specs.Prelude.{◌≢◌, ◌↔◌, ℕ, ◌<◌, Bool, ◌&&◌, IsTrue, List, map, flat_map, filter, AllPairs, Contains}
use Rattle.std.specs.List.{range_with_len}
use Rattle.fpga_types.specs.Boxes.{Opens, opens}
use Rattle.fpga_types.specs.CellNumbers.{all_cells}
use Rattle.fpga_types.specs.Fabric.{Meeting, all_meetings, cell_on, is_cell, same_cell}
use Rattle.fpga_types.specs.Size.{Size}
use Rattle.fpga_types.specs.Touching.{Touches, touches}
use Rattle.fpga_types.specs.Tracks.{AreJoined, TrackMap, mapped_track}
use Rattle.fpga_types.specs.declared.grid.Cell.{Cell}
use Rattle.fpga_types.specs.declared.grid.PinAt.{PinAt}
use Rattle.fpga_types.specs.declared.grid.Wire.{Wire}
use Rattle.fpga_graph.specs.GraphOf.{GraphOf}

-- the wire is one of the array at this width
pub record IsWire (g : GraphOf) (w : Wire) : Type 0 where
  pub cell : IsTrue (is_cell g.grid w.cell)
  pub track : w.track < g.width

-- the cell meets another one of the array there
abbrev pub is_meeting_from : Size → Cell → Meeting → Bool
is_meeting_from grid cell m =
    same_cell cell (cell_on m.from m.at) && is_cell grid (cell_on m.to m.at)

-- the wire on the second side that a track of the first is joined to
abbrev pub wire_across : TrackMap → ℕ → Meeting → Wire
wire_across table track m =
    record { cell = cell_on m.to m.at; track = table m.from m.to track }

-- the wires that a wire is joined to, in the order of the switch blocks and then of the sides
abbrev pub joined_wires : GraphOf → Wire → List Wire
joined_wires g w = map (wire_across (mapped_track g.arch.pattern g.width) w.track)
    (filter (is_meeting_from g.grid w.cell) (all_meetings g.grid))

-- the list has each wire that is joined to this one, once, and no other
pub record AreJoints (g : GraphOf) (w : Wire) (wires : List Wire) : Type 0 where
  pub each : (v : Wire) → Contains wires v
      ↔ AreJoined (mapped_track g.arch.pattern g.width) g.grid w v
  pub once : AllPairs (λ a b. a ≢ b) wires

-- the cells that the pin touches, by number
abbrev pub touched_cells : GraphOf → PinAt → List Cell
touched_cells g pin = filter (touches g.arch g.grid pin) (all_cells g.grid)

-- the tracks that the pin opens, rising
abbrev pub opened_tracks : GraphOf → PinAt → List ℕ
opened_tracks g pin = filter (opens g.arch g.width pin) (range_with_len 0 g.width)

-- the track of the cell
abbrev pub wire_in : Cell → ℕ → Wire
wire_in cell track = record { cell = cell; track = track }

-- the wires whose cell the pin touches and whose track it opens, by cell number and then track
abbrev pub opened_wires : GraphOf → PinAt → List Wire
opened_wires g pin =
    flat_map (λ cell. map (wire_in cell) (opened_tracks g pin)) (touched_cells g pin)

-- the pin touches the wire's cell and opens its track
pub record Reaches (g : GraphOf) (pin : PinAt) (w : Wire) : Type 0 where
  pub touches : Touches g.arch g.grid pin w.cell
  pub opens : Opens g.arch g.width pin w.track

-- the list has each wire that the pin reaches, once, and no other
pub record AreReached (g : GraphOf) (pin : PinAt) (wires : List Wire) : Type 0 where
  pub each : (v : Wire) → Contains wires v ↔ Reaches g pin v
  pub once : AllPairs (λ a b. a ≢ b) wires

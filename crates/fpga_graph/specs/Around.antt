-- The cells round a cell, by the switch blocks at its ends.
use Rattle.std.specs.Prelude.{List, ◌++◌, map, Option, option_map}
use Rattle.fpga_types.specs.Fabric.{cell_on, other_sides}
use Rattle.fpga_types.specs.Tracks.{mapped_track, track_across}
use Rattle.fpga_types.specs.declared.grid.Cell.{Cell}
use Rattle.fpga_types.specs.declared.grid.Side.{Side}
use Rattle.fpga_types.specs.declared.grid.SwitchAt.{SwitchAt}
use Rattle.fpga_types.specs.declared.grid.Wire.{Wire}
use Rattle.fpga_fabric.specs.Ends.{lower_end, lower_side, upper_end, upper_side}
use Rattle.fpga_graph.specs.GraphOf.{GraphOf}
use Rattle.fpga_graph.specs.Wires.{wire_in}

-- the cells on the other sides of a switch block, where the array has them
abbrev pub cells_across : SwitchAt → Side → List Cell
cells_across at from = map (λ to. cell_on to at) (other_sides from)

-- the cells across the lower end of a cell, and then those across the upper one
abbrev pub cells_around : Cell → List Cell
cells_around cell =
    cells_across (lower_end cell.axis cell.x cell.y) (lower_side cell.axis)
    ++ cells_across (upper_end cell.x cell.y) (upper_side cell.axis)

-- the wire of a cell that this wire is joined to, if they meet
abbrev pub joint_in : GraphOf → Wire → Cell → Option Wire
joint_in g w cell = option_map (wire_in cell)
    (track_across (mapped_track g.arch.pattern g.width) g.grid w.cell cell w.track)

-- The parts of the wires of an array, by which of them switch blocks join over some wires between.
use Rattle.std.specs.Prelude.{◌≡◌, ℕ, ◌+◌, ◌*◌, ◌≤◌, List, length, slice_index}
use Rattle.fpga_graph.specs.GraphOf.{GraphOf}
use Rattle.fpga_graph.specs.Wires.{IsWire}
use Rattle.fpga_types.specs.CellNumbers.{cell_count, number_of_cell}
use Rattle.fpga_types.specs.Placed.{AreInTurn, last_wire}
use Rattle.fpga_types.specs.Tracks.{AreJoined, mapped_track}
use Rattle.fpga_types.specs.declared.grid.Wire.{Wire}
use Rattle.route_parts.specs.declared.wires.Wires.{Wires}

-- the graph of the wires
abbrev pub graph_of : Wires → GraphOf
graph_of wires = record { arch = wires.arch.now; grid = wires.grid; width = wires.width }

-- a switch block joins the two wires
abbrev pub JoinedIn : GraphOf → Wire → Wire → Type 0
JoinedIn g = AreJoined (mapped_track g.arch.pattern g.width) g.grid

-- switch blocks lead from the one wire to the other, over the wires of `rest` in turn, of which it
-- is the last; with none, both are one wire
pub record AreLinked (g : GraphOf) (u v : Wire) : Type 0 where
  pub rest : List Wire
  pub joined : AreInTurn (JoinedIn g) u rest
  pub last : last_wire u rest ≡ v

-- the number of a wire: the wires are numbered cell by cell, and by track in a cell
abbrev pub wire_number : GraphOf → Wire → ℕ
wire_number g wire = number_of_cell g.grid wire.cell * g.width + wire.track

-- how many wires the array has
abbrev pub wire_count : GraphOf → ℕ
wire_count g = cell_count g.grid * g.width

-- the part that a table has for a wire
abbrev pub part_in : GraphOf → (table : List ℕ) → Wire → ℕ
part_in g table wire = slice_index table (wire_number g wire)

-- the table has a part for each wire, none above the count, and one for two wires exactly where
-- they are linked
pub record AreParts (g : GraphOf) (count : ℕ) (table : List ℕ) : Type 0 where
  pub size : length table ≡ wire_count g
  pub within : (k : ℕ) → slice_index table k ≤ count
  pub alike : (u v : Wire) → IsWire g u → JoinedIn g u v → part_in g table v ≡ part_in g table u
  pub linked : (u v : Wire) → IsWire g u → IsWire g v → part_in g table u ≡ part_in g table v
      → AreLinked g u v

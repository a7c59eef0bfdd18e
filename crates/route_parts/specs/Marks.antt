-- Marks at parts, and whether a terminal opens a wire of a marked part.
use Rattle.std.specs.Prelude.{◌≡◌, ℕ, ◌≤◌, ◌==◌, Bool, true, false, List, length, slice_index_or}
use Rattle.std.specs.List.{list_any}
use Rattle.std.specs.Option.{option_map_or}
use Rattle.fpga_graph.specs.GraphOf.{GraphOf}
use Rattle.fpga_types.specs.Problem.{PlacedNetlist}
use Rattle.fpga_types.specs.Terminals.{terminal_in}
use Rattle.fpga_types.specs.declared.grid.Wire.{Wire}
use Rattle.fpga_types.specs.declared.limits.TheConstants.{PIN_LIMIT}
use Rattle.fpga_types.specs.declared.netlist.PinRef.{PinRef}
use Rattle.fpga_types.specs.declared.problem.Terminal.{Terminal}
use Rattle.route_parts.specs.Links.{AreParts, graph_of, part_in}
use Rattle.route_parts.specs.Opening.{terminal_wires}
use Rattle.route_parts.specs.Unreached.{placed_netlist}
use Rattle.route_parts.specs.declared.terminals.PlacedNets.{PlacedNets}
use Rattle.route_parts.specs.declared.unreached.PartedNets.{PartedNets}

-- the graph of the wires of a placed netlist's array, with so many tracks
abbrev pub graph_at : PlacedNetlist → (width : ℕ) → GraphOf
graph_at placed width =
    record { arch = placed.arch; grid = placed.placement.grid; width = width }

-- the placed netlist that is lent
abbrev pub placed_of : PlacedNets → PlacedNetlist
placed_of nets = placed_netlist nets.arch.now nets.netlist.now nets.placement.now

-- a placed netlist, the graph of its wires, how many parts these have, and the part of each
pub record Parted : Type 0 where
  pub placed : PlacedNetlist
  pub graph : GraphOf
  pub count : ℕ
  pub table : List ℕ

abbrev pub placed_in : PartedNets → PlacedNetlist
placed_in nets = placed_of nets.placed

abbrev pub graph_in : PartedNets → GraphOf
graph_in nets = graph_of nets.wires

abbrev pub parted_of : PartedNets → Parted
parted_of nets = record {
  placed = placed_in nets;
  graph = graph_in nets;
  count = nets.parts.count;
  table = nets.parts.table.items;
}

-- the graph is that of the netlist's array, with some tracks, and the table is right; the
-- architecture has not more pins than it may
pub record IsParted (n : Parted) : Type 0 where
  pub graph_is : n.graph ≡ graph_at n.placed n.graph.width
  pub some : 1 ≤ n.graph.width
  pub parts : AreParts n.graph n.count n.table
  pub few_pins : length n.graph.arch.pins ≤ PIN_LIMIT

-- exactly the parts of these wires are marked
abbrev pub AreMarked : GraphOf → (table : List ℕ) → List Wire → (marks : List Bool) → Type 0
AreMarked g table wires marks = (part : ℕ) → slice_index_or marks part false
    ≡ list_any (λ w. part_in g table w == part) wires

-- the wire is of a marked part
abbrev pub is_marked : GraphOf → (table : List ℕ) → (marks : List Bool) → Wire → Bool
is_marked g table marks wire = slice_index_or marks (part_in g table wire) false

-- the terminal opens a wire of a marked part
abbrev pub is_reached_by : Parted → (marks : List Bool) → Terminal → Bool
is_reached_by n marks at =
    list_any (is_marked n.graph n.table marks) (terminal_wires n.graph at)

-- so does the sink at this pin, if it is there
abbrev pub is_sink_reached_by : Parted → (marks : List Bool) → PinRef → Bool
is_sink_reached_by n marks pin =
    option_map_or (is_reached_by n marks) (terminal_in n.placed pin) true

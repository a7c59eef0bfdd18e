-- Worked rows: the clauses over cells of an array of one block, as `bench/cell_clauses.py` writes them.
use Rattle.std.proofs.Common.{◌≡◌, ℕ, List, [], ◌∷◌, refl}
use Rattle.std.specs.Prelude.{true, false, map, Some, ◌&&◌, ◌==◌}
use Rattle.fpga_types.specs.Problem.{PlacedNetlist}
use Rattle.fpga_types.specs.declared.arch.Arch.{Arch}
use Rattle.fpga_types.specs.declared.arch.Pattern.TheVariants.{Subset}
use Rattle.fpga_types.specs.declared.arch.PinSpec.{PinSpec}
use Rattle.fpga_types.specs.declared.arch.SideSet.{SideSet}
use Rattle.fpga_types.specs.declared.netlist.Block.{Block}
use Rattle.fpga_types.specs.declared.netlist.BlockKind.{BlockKind}
use Rattle.fpga_types.specs.declared.netlist.BlockKind.TheVariants.{Input, Logic}
use Rattle.fpga_types.specs.declared.netlist.Net.{Net}
use Rattle.fpga_types.specs.declared.netlist.PinRef.{PinRef}
use Rattle.fpga_types.specs.declared.placement.Place.{Place}
use Rattle.route_bound.specs.Corners.{Corners}
use Rattle.cell_clauses.specs.Clauses.{cell_clauses}
use Rattle.cell_clauses.specs.Frames.{frame_of}
use Rattle.cell_clauses.specs.Places.{has, lacks, variable_count}

abbrev below : SideSet
below = record { left = false; right = false; bottom = true; top = false }

abbrev above : SideSet
above = record { left = false; right = false; bottom = false; top = true }

abbrev beside : SideSet
beside = record { left = true; right = false; bottom = false; top = false }

-- a pin of the input class, and one of the output class
abbrev input_on : SideSet → PinSpec
input_on sides = record { class = 0; output = false; global = false; sides = sides }

abbrev output_on : SideSet → PinSpec
output_on sides = record { class = 1; output = true; global = false; sides = sides }

abbrev arch_with : List PinSpec → Arch
arch_with pins = record {
  io_rat = 2;
  pins = pins;
  pattern = Subset;
  fc = record { fractional = true; output = 1000000; input = 1000000; pad = 1000000 };
}

abbrev block_of : BlockKind → Block
block_of kind = record { name = []; kind = kind; pins = [] }

abbrev place_at : ℕ → ℕ → Place
place_at x y = record { x = x; y = y; sub = 0 }

abbrev pin_of : ℕ → ℕ → PinRef
pin_of block pin = record { block = block; pin = pin }

abbrev net_from : PinRef → PinRef → Net
net_from driver sink =
    record { name = []; global = false; driver = Some driver; sinks = sink ∷ [] }

abbrev placed_with : List PinSpec → List Net → List BlockKind → List Place → PlacedNetlist
placed_with pins nets kinds places = record {
  arch = arch_with pins;
  netlist = record { nets = nets; blocks = map block_of kinds };
  placement = record { grid = record { nx = 1; ny = 1 }; places = places };
}

-- a block whose output above is led back to its input below
abbrev one_net : PlacedNetlist
one_net = placed_with (input_on below ∷ output_on above ∷ [])
    (net_from (pin_of 0 1) (pin_of 0 0) ∷ []) (Logic ∷ []) (place_at 1 1 ∷ [])

abbrev each_corner : Corners
each_corner at = true

one-net : cell_clauses (frame_of one_net each_corner 1) ≡
    (has 1 ∷ [])
    ∷ (has 12 ∷ [])
    ∷ (lacks 12 ∷ has 0 ∷ [])
    ∷ (lacks 0 ∷ has 2 ∷ has 3 ∷ [])
    ∷ (lacks 2 ∷ has 0 ∷ has 1 ∷ [])
    ∷ (lacks 3 ∷ has 0 ∷ has 1 ∷ [])
    ∷ (lacks 0 ∷ has 8 ∷ [])
    ∷ (lacks 4 ∷ has 8 ∷ [])
    ∷ (lacks 0 ∷ lacks 4 ∷ [])
    ∷ (lacks 1 ∷ has 9 ∷ [])
    ∷ (lacks 5 ∷ has 9 ∷ [])
    ∷ (lacks 1 ∷ lacks 5 ∷ [])
    ∷ (lacks 2 ∷ has 10 ∷ [])
    ∷ (lacks 6 ∷ has 10 ∷ [])
    ∷ (lacks 2 ∷ lacks 6 ∷ [])
    ∷ (lacks 3 ∷ has 11 ∷ [])
    ∷ (lacks 7 ∷ has 11 ∷ [])
    ∷ (lacks 3 ∷ lacks 7 ∷ [])
    ∷ []
one-net = refl

one-net-variables : variable_count (frame_of one_net each_corner 1) ≡ 15
one-net-variables = refl

-- a pad above it and its own output are both led to its two inputs
abbrev two_nets : PlacedNetlist
two_nets = placed_with (input_on below ∷ input_on beside ∷ output_on above ∷ [])
    (net_from (pin_of 0 0) (pin_of 1 1) ∷ net_from (pin_of 1 2) (pin_of 1 0) ∷ [])
    (Input ∷ Logic ∷ []) (place_at 1 2 ∷ place_at 1 1 ∷ [])

abbrev upper_left : Corners
upper_left at = at.i == 0 && at.j == 1

-- at one corner alone: the inputs also touch another cell, and the cells meet others
two-nets : cell_clauses (frame_of two_nets upper_left 1) ≡
    (has 0 ∷ [])
    ∷ (has 2 ∷ [])
    ∷ (lacks 10 ∷ lacks 14 ∷ [])
    ∷ (lacks 11 ∷ lacks 15 ∷ [])
    ∷ (lacks 0 ∷ has 6 ∷ [])
    ∷ (lacks 4 ∷ has 6 ∷ [])
    ∷ (lacks 0 ∷ lacks 4 ∷ [])
    ∷ (lacks 1 ∷ has 7 ∷ [])
    ∷ (lacks 5 ∷ has 7 ∷ [])
    ∷ (lacks 1 ∷ lacks 5 ∷ [])
    ∷ (lacks 2 ∷ has 8 ∷ [])
    ∷ (lacks 6 ∷ has 8 ∷ [])
    ∷ (lacks 2 ∷ lacks 6 ∷ [])
    ∷ (lacks 3 ∷ has 9 ∷ [])
    ∷ (lacks 7 ∷ has 9 ∷ [])
    ∷ (lacks 3 ∷ lacks 7 ∷ [])
    ∷ []
two-nets = refl

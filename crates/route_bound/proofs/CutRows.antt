-- Worked rows: which nets cross a cut, counted by hand on an array of two columns and one row.
use Rattle.std.proofs.Common.{◌≡◌, ℕ, List, [], ◌∷◌, refl}
use Rattle.std.specs.Prelude.{true, false, length, map, Some}
use Rattle.fpga_types.specs.Problem.{PlacedNetlist}
use Rattle.fpga_types.specs.Size.{Size}
use Rattle.fpga_types.specs.declared.arch.Arch.{Arch}
use Rattle.fpga_types.specs.declared.arch.Pattern.TheVariants.{Subset}
use Rattle.fpga_types.specs.declared.arch.PinSpec.{PinSpec}
use Rattle.fpga_types.specs.declared.arch.SideSet.{SideSet}
use Rattle.fpga_types.specs.declared.netlist.Block.{Block}
use Rattle.fpga_types.specs.declared.netlist.BlockKind.{BlockKind}
use Rattle.fpga_types.specs.declared.netlist.BlockKind.TheVariants.{Input, Logic, Output}
use Rattle.fpga_types.specs.declared.netlist.Net.{Net}
use Rattle.fpga_types.specs.declared.netlist.PinRef.{PinRef}
use Rattle.fpga_types.specs.declared.placement.Place.{Place}
use Rattle.route_bound.specs.Crossing.{bound_of, crossing, cut_cells, tracks_wanted}
use Rattle.route_bound.specs.Ranges.{corners_of, line_range}
use Rattle.route_bound.specs.declared.range.LineKind.{LineKind}
use Rattle.route_bound.specs.declared.range.LineKind.TheVariants.{Column, Row}

abbrev two_by_one : Size
two_by_one = record { nx = 2; ny = 1 }

-- a pin of an input class, and one of the output class
abbrev input_on : SideSet → PinSpec
input_on sides = record { class = 0; output = false; global = false; sides = sides }

abbrev output_on : SideSet → PinSpec
output_on sides = record { class = 1; output = true; global = false; sides = sides }

abbrev below : SideSet
below = record { left = false; right = false; bottom = true; top = false }

abbrev above : SideSet
above = record { left = false; right = false; bottom = false; top = true }

abbrev on_both : SideSet
on_both = record { left = false; right = false; bottom = true; top = true }

-- inputs below and above, and an output on these sides
abbrev arch_with : SideSet → Arch
arch_with sides = record {
  io_rat = 2;
  pins = input_on below ∷ input_on above ∷ output_on sides ∷ [];
  pattern = Subset;
  fc = record { fractional = true; output = 1000000; input = 1000000; pad = 1000000 };
}

abbrev block_of : BlockKind → Block
block_of kind = record { name = []; kind = kind; pins = [] }

abbrev place_at : ℕ → ℕ → ℕ → Place
place_at x y sub = record { x = x; y = y; sub = sub }

abbrev pin_of : ℕ → ℕ → PinRef
pin_of block pin = record { block = block; pin = pin }

abbrev driven_net : PinRef → PinRef → Net
driven_net driver sink =
    record { name = []; global = false; driver = Some driver; sinks = sink ∷ [] }

-- input pads below the first and the second column, another one and an output pad beside them, a
-- logic block in each column, and an output pad above the first
abbrev placed_with : SideSet → List Net → PlacedNetlist
placed_with sides nets = record {
  arch = arch_with sides;
  netlist = record {
    nets = nets;
    blocks = map block_of (Input ∷ Input ∷ Input ∷ Output ∷ Logic ∷ Logic ∷ Output ∷ []);
  };
  placement = record {
    grid = two_by_one;
    places = place_at 1 0 0 ∷ place_at 2 0 0 ∷ place_at 1 0 1 ∷ place_at 2 0 1 ∷ place_at 1 1 0
        ∷ place_at 2 1 0 ∷ place_at 1 2 0 ∷ [];
  };
}

-- the nets that cross a straight line
abbrev across : SideSet → List Net → LineKind → ℕ → List ℕ
across sides nets kind line =
    crossing (placed_with sides nets) (corners_of (line_range two_by_one kind line))

-- from the pad below the first column to the block there, the same in the second column, and from
-- pad to pad below
abbrev three_nets : List Net
three_nets = driven_net (pin_of 0 0) (pin_of 4 0) ∷ driven_net (pin_of 1 0) (pin_of 5 0)
    ∷ driven_net (pin_of 2 0) (pin_of 3 0) ∷ []

-- a pad at the cut alone makes its net cross, and what lies on one side does not
column-0 : across below three_nets Column 0 ≡ 0 ∷ 2 ∷ []
column-0 = refl

column-1 : across below three_nets Column 1 ≡ 1 ∷ 2 ∷ []
column-1 = refl

-- a class with pins inside and outside is on no side
row-0 : across below three_nets Row 0 ≡ []
row-0 = refl

-- two nets fill the two cells behind the first column, and a third one would want a second track
full-column : bound_of (placed_with below three_nets)
    (corners_of (line_range two_by_one Column 0)) ≡ 1
full-column = refl

more-than-full : map (λ nets. tracks_wanted nets 2) (0 ∷ 1 ∷ 2 ∷ 3 ∷ 4 ∷ 5 ∷ []) ≡
    1 ∷ 1 ∷ 1 ∷ 2 ∷ 2 ∷ 3 ∷ []
more-than-full = refl

cells : map (λ kind. length (cut_cells two_by_one (corners_of (line_range two_by_one kind 0))))
    (Column ∷ Row ∷ []) ≡ 2 ∷ 3 ∷ []
cells = refl

-- from the output of the first block to the pad above it
abbrev one_net : Net
one_net = driven_net (pin_of 4 2) (pin_of 6 0)

-- an output below has to cross the row, and one that is above too does not
output-below : across below (one_net ∷ []) Row 0 ≡ 0 ∷ []
output-below = refl

output-on_two_sides : across on_both (one_net ∷ []) Row 0 ≡ []
output-on_two_sides = refl

-- a global net crosses nothing, and where there is no net one track is asked for
global-net : across below (record one_net { global = true } ∷ []) Row 0 ≡ []
global-net = refl

no-net : bound_of (placed_with below []) (corners_of (line_range two_by_one Row 0)) ≡ 1
no-net = refl

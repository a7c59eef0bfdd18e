-- Worked rows of joined and opened wires on small arrays, each by computation.
use Rattle.std.proofs.Common.{◌≡◌, ℕ, true, false, [], ◌∷◌, refl}
use Rattle.fpga_types.specs.Size.{Size}
use Rattle.fpga_types.specs.declared.arch.Arch.{Arch}
use Rattle.fpga_types.specs.declared.arch.Pattern.{Pattern}
use Rattle.fpga_types.specs.declared.arch.Pattern.TheVariants.{Subset, Universal, Wilton}
use Rattle.fpga_types.specs.declared.arch.PinSpec.{PinSpec}
use Rattle.fpga_types.specs.declared.arch.SideSet.{SideSet}
use Rattle.fpga_types.specs.declared.grid.PinAt.TheVariants.{Pad as PadAt, Pin as PinOf}
use Rattle.fpga_types.specs.declared.grid.Wire.{Wire}
use Rattle.fpga_graph.specs.Cells.{column_cell, row_cell}
use Rattle.fpga_graph.specs.GraphOf.{GraphOf}
use Rattle.fpga_graph.specs.Wires.{joined_wires, opened_tracks, opened_wires, wire_in}

abbrev left_side : SideSet
left_side = record { left = true; right = false; bottom = false; top = false }

abbrev top_side : SideSet
top_side = record { left = false; right = false; bottom = false; top = true }

abbrev all_round : SideSet
all_round = record { left = true; right = true; bottom = true; top = true }

abbrev input_on : SideSet → PinSpec
input_on sides = record { class = 0; output = false; global = false; sides = sides }

-- inputs on all sides, on the left and on the top, that open this share of a channel
abbrev arch_of : Pattern → (input : ℕ) → Arch
arch_of pattern input = record {
  io_rat = 2;
  pins = input_on all_round ∷ input_on left_side ∷ input_on top_side ∷ [];
  pattern = pattern;
  fc = record { fractional = true; output = 1000000; input = input; pad = 1000000 };
}

abbrev two_by_one : Size
two_by_one = record { nx = 2; ny = 1 }

abbrev graph : Pattern → (input width : ℕ) → GraphOf
graph pattern input width =
    record { arch = arch_of pattern input; grid = two_by_one; width = width }

abbrev along_row : (x y track : ℕ) → Wire
along_row x y track = wire_in (row_cell x y) track

abbrev along_column : (x y track : ℕ) → Wire
along_column x y track = wire_in (column_cell x y) track

-- a track goes on as it is, and turns as it is
pub subset : joined_wires (graph Subset 1000000 3) (along_row 1 0 1)
    ≡ along_column 0 1 1 ∷ along_row 2 0 1 ∷ along_column 1 1 1 ∷ []
subset = refl

-- at the border the tables are the same: right to top is one less, left to top the opposite
pub wilton : joined_wires (graph Wilton 1000000 3) (along_row 1 0 1)
    ≡ along_column 0 1 0 ∷ along_row 2 0 1 ∷ along_column 1 1 2 ∷ []
wilton = refl

-- left to top is the mirrored track, right to top the same
pub universal : joined_wires (graph Universal 1000000 4) (along_row 1 0 1)
    ≡ along_column 0 1 1 ∷ along_row 2 0 1 ∷ along_column 1 1 2 ∷ []
universal = refl

-- top to left, top to right, bottom to left, bottom to right
pub between_rows : joined_wires (graph Wilton 1000000 3) (along_column 1 1 0)
    ≡ along_row 1 0 0 ∷ along_row 2 0 1 ∷ along_row 1 1 1 ∷ along_row 2 1 1 ∷ []
between_rows = refl

-- a channel of one track: each turn gives that track
pub one_track : joined_wires (graph Wilton 1000000 1) (along_row 2 1 0)
    ≡ along_row 1 1 0 ∷ along_column 1 1 0 ∷ along_column 2 1 0 ∷ []
one_track = refl

-- amid the array six wires are joined to each, in the order of the switch blocks and sides
abbrev three_by_three : GraphOf
three_by_three = record {
  arch = arch_of Subset 1000000;
  grid = record { nx = 3; ny = 3 };
  width = 2;
}

pub six_of_row : joined_wires three_by_three (along_row 2 1 1)
    ≡ along_row 1 1 1 ∷ along_column 1 1 1 ∷ along_column 1 2 1
    ∷ along_row 3 1 1 ∷ along_column 2 1 1 ∷ along_column 2 2 1 ∷ []
six_of_row = refl

pub six_of_column : joined_wires three_by_three (along_column 1 2 0)
    ≡ along_row 1 1 0 ∷ along_row 2 1 0 ∷ along_column 1 1 0
    ∷ along_row 1 2 0 ∷ along_row 2 2 0 ∷ along_column 1 3 0 ∷ []
six_of_column = refl

-- two of five tracks from the pin's number on, on the left of the block
pub two_of_five : opened_tracks (graph Subset 400000 5) (PinOf 1 1 1) ≡ 1 ∷ 3 ∷ []
two_of_five = refl

pub left_pin : opened_wires (graph Subset 400000 5) (PinOf 1 1 1)
    ≡ along_column 0 1 1 ∷ along_column 0 1 3 ∷ []
left_pin = refl

-- half of five tracks are three, on the top of the block
pub top_pin : opened_wires (graph Subset 500000 5) (PinOf 1 1 2)
    ≡ along_row 1 1 0 ∷ along_row 1 1 2 ∷ along_row 1 1 3 ∷ []
top_pin = refl

-- a pin on all sides touches four cells: those of rows come first, and the lower ones
pub four_cells : opened_wires (graph Subset 1000000 1) (PinOf 2 1 0)
    ≡ along_row 2 0 0 ∷ along_row 2 1 0 ∷ along_column 1 1 0 ∷ along_column 2 1 0 ∷ []
four_cells = refl

-- a pad opens the cell that its place looks at, and one at a corner none
pub right_pad : opened_wires (graph Subset 1000000 2) (PadAt 3 1 1)
    ≡ along_column 2 1 0 ∷ along_column 2 1 1 ∷ []
right_pad = refl

pub corner_pad : opened_wires (graph Subset 1000000 2) (PadAt 0 0 0) ≡ []
corner_pad = refl

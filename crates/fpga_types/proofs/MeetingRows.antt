-- Worked rows of where cells meet on an array of 2 by 1, each by computation.
use Rattle.std.proofs.Common.{◌≡◌, ℕ, Option, Some, None, refl}
use Rattle.fpga_types.specs.Size.{Size}
use Rattle.fpga_types.specs.Fabric.{Meeting, meeting}
use Rattle.fpga_types.specs.declared.grid.Axis.{Axis}
use Rattle.fpga_types.specs.declared.grid.Axis.TheVariants.{X, Y}
use Rattle.fpga_types.specs.declared.grid.Cell.{Cell}
use Rattle.fpga_types.specs.declared.grid.Side.{Side}
use Rattle.fpga_types.specs.declared.grid.Side.TheVariants.{Left, Right, Bottom, Top}

abbrev array : Size
array = record { nx = 2; ny = 1 }

abbrev cell : Axis → ℕ → ℕ → Cell
cell axis x y = record { axis = axis; x = x; y = y }

abbrev met : ℕ → ℕ → Side → Side → Option Meeting
met i j from to = Some (record { at = record { i = i; j = j }; from = from; to = to })

pub straight_on : meeting array (cell X 1 0) (cell X 2 0) ≡ met 1 0 Left Right
straight_on = refl

pub straight_back : meeting array (cell X 2 0) (cell X 1 0) ≡ met 1 0 Right Left
straight_back = refl

pub round_a_corner : meeting array (cell X 1 0) (cell Y 1 1) ≡ met 1 0 Left Top
round_a_corner = refl

pub round_the_other_corner : meeting array (cell X 2 1) (cell Y 1 1) ≡ met 1 1 Right Bottom
round_the_other_corner = refl

pub from_above : meeting array (cell Y 1 1) (cell X 2 0) ≡ met 1 0 Top Right
from_above = refl

pub at_the_border : meeting array (cell X 1 1) (cell Y 0 1) ≡ met 0 1 Right Bottom
at_the_border = refl

pub rows_apart : meeting array (cell X 1 0) (cell X 2 1) ≡ None
rows_apart = refl

pub with_itself : meeting array (cell X 1 0) (cell X 1 0) ≡ None
with_itself = refl

pub off_the_array : meeting array (cell X 2 0) (cell X 3 0) ≡ None
off_the_array = refl

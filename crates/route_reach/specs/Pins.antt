-- Pins that stand together at one place of the array, and the cells beside it.
use Rattle.std.specs.Prelude.{◌≡◌, ℕ, Bool, false, List, All}
use Rattle.std.specs.Option.{option_map_or}
use Rattle.fpga_graph.specs.Beside.{cell_beside}
use Rattle.fpga_types.specs.Fabric.{same_cell}
use Rattle.fpga_types.specs.Pins.{HasPin}
use Rattle.fpga_types.specs.declared.arch.Arch.{Arch}
use Rattle.fpga_types.specs.declared.grid.Cell.{Cell}
use Rattle.fpga_types.specs.declared.grid.PinAt.{PinAt}
use Rattle.fpga_types.specs.declared.grid.PinAt.TheVariants.{Pad as PadAt, Pin as PinOf}
use Rattle.fpga_types.specs.declared.grid.Side.{Side}

-- the place of a pin
abbrev pub pin_place : PinAt → ℕ × ℕ
pin_place (PadAt x y sub) = (x, y)
pin_place (PinOf x y pin) = (x, y)

-- the pins are the architecture's, and all have one place
pub record AreTogether (arch : Arch) (pins : List PinAt) : Type 0 where
  pub known : All (HasPin arch) pins
  pub together : All (λ a. All (λ b. pin_place a ≡ pin_place b) pins) pins

-- the cell lies along this side of the pin's place
abbrev pub is_along : PinAt → Cell → Side → Bool
is_along pin cell side = option_map_or (λ other. same_cell other cell) (cell_beside pin side) false

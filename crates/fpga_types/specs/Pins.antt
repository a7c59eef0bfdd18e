-- The pins that an architecture has.
use Rattle.std.specs.Prelude.{◌<◌, ⊤, length}
use Rattle.fpga_types.specs.declared.arch.Arch.{Arch}
use Rattle.fpga_types.specs.declared.grid.PinAt.{PinAt}
use Rattle.fpga_types.specs.declared.grid.PinAt.TheVariants.{Pad as PadAt, Pin as PinOf}

-- a pin of a logic block is one of the architecture's; a pad is always one
abbrev pub HasPin : Arch → PinAt → Type 0
HasPin arch (PadAt x y sub) = ⊤
HasPin arch (PinOf x y pin) = pin < length arch.pins

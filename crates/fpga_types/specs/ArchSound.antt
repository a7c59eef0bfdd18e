-- What is true of each architecture that was read.
use Rattle.std.specs.Prelude.{◌≡◌, ◌≤◌, Bool, true, ◌||◌, All, AllPairs, length}
use Rattle.fpga_types.specs.declared.arch.Arch.{Arch}
use Rattle.fpga_types.specs.declared.arch.PinSpec.{PinSpec}
use Rattle.fpga_types.specs.declared.arch.SideSet.{SideSet}
use Rattle.fpga_types.specs.declared.limits.TheConstants.{CLASS_LIMIT, PAD_LIMIT, PIN_LIMIT}

-- there is a side
abbrev pub has_side : SideSet → Bool
has_side sides = sides.left || sides.right || sides.bottom || sides.top

-- the pin has a class within its limit, and a side
pub record IsSoundPin (pin : PinSpec) : Type 0 where
  pub class : pin.class ≤ CLASS_LIMIT
  pub sided : has_side pin.sides ≡ true

-- two pins of one class have one direction
abbrev pub AgreeInClass : PinSpec → PinSpec → Type 0
AgreeInClass a b = a.class ≡ b.class → a.output ≡ b.output

-- the numbers are within their limits, and each class has one direction
pub record IsSoundArch (arch : Arch) : Type 0 where
  pub io_rat_above : 1 ≤ arch.io_rat
  pub io_rat_below : arch.io_rat ≤ PAD_LIMIT
  pub pin_count : length arch.pins ≤ PIN_LIMIT
  pub pins : All IsSoundPin arch.pins
  pub classes : AllPairs AgreeInClass arch.pins

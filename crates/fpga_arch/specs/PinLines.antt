-- What a pin line says, and why it is refused.
use Rattle.std.specs.Prelude.{◌≡◌, ◌<◌, ◌+◌, ◌==◌, ℕ, Bool, false, not, ◌||◌, List, length, Option, Some, None, option_and_then, option_map, if◌then◌else◌}
use Rattle.std.specs.List.{list_any}
use Rattle.std.specs.Option.{option_or, option_map_or}
use Rattle.fpga_types.specs.ArchSound.{IsSoundPin}
use Rattle.fpga_types.specs.declared.arch.PinSpec.{PinSpec}
use Rattle.fpga_types.specs.declared.limits.TheConstants.{CLASS_LIMIT, PIN_LIMIT}
use Rattle.fpga_text.specs.declared.fault.TextFault.{TextFault}
use Rattle.fpga_text.specs.declared.fault.TextFault.TheVariants.{Bad, Limit}
use Rattle.fpga_text.specs.Said.{past}
use Rattle.fpga_text.specs.Words.{Words}
use Rattle.fpga_arch.specs.declared.cause.Cause.TheVariants.{NoNumber, PinForm, MixedClass, PastLimit}
use Rattle.fpga_arch.specs.Causes.{code_of}
use Rattle.fpga_arch.specs.Codes.{lacks_class}
use Rattle.fpga_arch.specs.Pins.{class_rest, class_said, has_class, is_opposed, lacks_sides, pin_with, side_words}

-- the pin that words behind `inpin` or `outpin` say, if they say a class
abbrev pub pin_said : Bool → Words → Option PinSpec
pin_said output rest = option_map (pin_with (class_rest rest) output) (class_said rest)

-- how many pins there are with this one, or its class, if that is more than may be
abbrev pub pin_past : List PinSpec → Bool → Words → Option ℕ
pin_past pins output rest =
    option_or (if length pins == PIN_LIMIT then Some (PIN_LIMIT + 1) else None)
    (option_and_then (λ (pin : PinSpec). past CLASS_LIMIT (Some pin.class)) (pin_said output rest))

-- one of the pins has the class of this one and another direction
abbrev pub is_mixed : List PinSpec → Bool → Words → Bool
is_mixed pins output rest =
    option_map_or (λ (pin : PinSpec). list_any (is_opposed pin.class pin.output) pins)
    (pin_said output rest) false

-- why words behind a pin's keyword are refused behind these pins
abbrev pub pin_fault : List PinSpec → Bool → ℕ → Words → Option TextFault
pin_fault pins output number rest =
    if lacks_class rest then Some (Bad number (code_of NoNumber))
    else if not (has_class rest) || lacks_sides (side_words (class_rest rest))
    then Some (Bad number (code_of PinForm))
    else if is_mixed pins output rest then Some (Bad number (code_of MixedClass))
    else option_or (option_map (λ n. Limit (code_of PastLimit) n) (pin_past pins output rest)) None

-- they are not, and say this pin
pub record IsNextPin (pins : List PinSpec) (output : Bool) (rest : Words) (pin : PinSpec)
    : Type 0 where
  pub clean : (number : ℕ) → pin_fault pins output number rest ≡ None
  pub says : pin_said output rest ≡ Some pin
  pub room : length pins < PIN_LIMIT
  pub sound : IsSoundPin pin
  pub agrees : list_any (is_opposed pin.class pin.output) pins ≡ false

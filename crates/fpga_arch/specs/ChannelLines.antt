-- What a line of channels along rows or columns says, and why it is refused.
use Rattle.std.specs.Prelude.{◌≡◌, ℕ, Bool, true, false, not, Option, Some, None, if◌then◌else◌}
use Rattle.std.specs.Option.{option_map_or}
use Rattle.fpga_text.specs.declared.fault.TextFault.{TextFault}
use Rattle.fpga_text.specs.declared.fault.TextFault.TheVariants.{Bad}
use Rattle.fpga_text.specs.Words.{Words}
use Rattle.fpga_arch.specs.declared.cause.Cause.TheVariants.{NoNumber, NotUniform, OtherWidth}
use Rattle.fpga_arch.specs.Causes.{code_of}
use Rattle.fpga_arch.specs.Codes.{is_other, is_uniform, lacks_width, uniform_width}

-- the width is another than this, if there is one
abbrev pub differs_from : Option ℕ → ℕ → Bool
differs_from earlier width = option_map_or (is_other width) earlier false

-- why words behind `chan_width_x` or `chan_width_y` are refused behind this width, unless they
-- repeat the keyword
abbrev pub channel_fault : Option ℕ → ℕ → Words → Option TextFault
channel_fault earlier number rest =
    if lacks_width rest then Some (Bad number (code_of NoNumber))
    else if not (is_uniform rest) then Some (Bad number (code_of NotUniform))
    else if option_map_or (differs_from earlier) (uniform_width rest) false
    then Some (Bad number (code_of OtherWidth)) else None

-- they are not, and say this width
pub record IsChannel (earlier : Option ℕ) (rest : Words) (width : ℕ) : Type 0 where
  pub clean : (number : ℕ) → channel_fault earlier number rest ≡ None
  pub says : uniform_width rest ≡ Some width
  pub number : lacks_width rest ≡ false
  pub uniform : is_uniform rest ≡ true
  pub same : differs_from earlier width ≡ false

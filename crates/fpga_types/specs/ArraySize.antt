-- The size that words say of an array.
use Rattle.std.specs.Prelude.{◌≡◌, ℕ, nat_lt, true, false, Bool, not, ◌&&◌, Option, Some, None, option_and_then, option_map, if◌then◌else◌}
use Rattle.fpga_text.specs.ArrayLine.{SizeWords}
use Rattle.fpga_text.specs.Bytes.{Bytes}
use Rattle.fpga_text.specs.Numbers.{whole_number_of}
use Rattle.fpga_text.specs.Said.{says_whole}
use Rattle.fpga_types.specs.Size.{Size}
use Rattle.fpga_types.specs.declared.array_size.SizeFault.{SizeFault}
use Rattle.fpga_types.specs.declared.array_size.SizeFault.TheVariants.{NoNumber, PastLimit}
use Rattle.fpga_types.specs.declared.limits.TheConstants.{SIDE_LIMIT}

-- the numbers that the words say
abbrev pub said_size : SizeWords → Option Size
said_size size = option_and_then
    (λ nx. option_map (λ ny. record { nx = nx; ny = ny }) (whole_number_of size.ny))
    (whole_number_of size.nx)

-- a word is no number, or 0
abbrev pub lacks_size : SizeWords → Bool
lacks_size size =
    not (says_whole (nat_lt 0) (Some size.nx) && says_whole (nat_lt 0) (Some size.ny))

-- the number that a word says, where it is more than an array may have of columns or rows
abbrev pub past_side : Bytes → Option ℕ
past_side word = if says_whole (nat_lt SIDE_LIMIT) (Some word) then whole_number_of word else None

-- more columns, or else more rows, than may be, and how many
abbrev pub size_past : SizeWords → Option ℕ
size_past size = if says_whole (nat_lt SIDE_LIMIT) (Some size.nx) then whole_number_of size.nx
    else past_side size.ny

-- the words say this size, within the limits
pub record SaysSize (size : SizeWords) (grid : Size) : Type 0 where
  pub numbers : lacks_size size ≡ false
  pub within : size_past size ≡ None
  pub grid_is : said_size size ≡ Some grid

-- why the words say no size
abbrev pub IsSizeFault : SizeWords → SizeFault → Type 0
IsSizeFault size NoNumber = lacks_size size ≡ true
IsSizeFault size (PastLimit count) = (lacks_size size ≡ false) × (size_past size ≡ Some count)

-- The width that a word says.
use Rattle.std.specs.Prelude.{ℕ, ◌&&◌, nat_le, Option, None, Some, option_and_then, if◌then◌else◌}
use Rattle.fpga_text.specs.Bytes.{Bytes}
use Rattle.fpga_text.specs.Numbers.{whole_number_of}
use Rattle.fpga_types.specs.declared.limits.TheConstants.{WIDTH_LIMIT}

-- the whole number that a word says, where channels may have so many tracks
abbrev pub width_said : Bytes → Option ℕ
width_said word =
    option_and_then (λ n. if nat_le 1 n && nat_le n WIDTH_LIMIT then Some n else None)
    (whole_number_of word)

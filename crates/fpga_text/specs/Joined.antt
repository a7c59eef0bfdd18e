-- Lines that go on: in the architecture and the netlist of VPR 4.30 a backslash at the end of a
-- line joins the next one to it.
use Rattle.std.specs.Prelude.{ℕ, ◌-◌, ◌==◌, Bool, false, length, take, None, if◌then◌else◌}
use Rattle.std.specs.List.{before_first, suffix_len, last_or}
use Rattle.std.specs.Option.{option_map_or}
use Rattle.fpga_text.specs.Bytes.{Bytes, is_blank, is_hash}

-- the byte is a backslash
abbrev pub is_backslash : ℕ → Bool
is_backslash b = b == 92

-- the text without the blanks at its end
abbrev pub trimmed : Bytes → Bytes
trimmed text = take (length text - suffix_len is_blank text) text

-- the line without its comment, and without the blanks at the end of what is left
abbrev pub bare : Bytes → Bytes
bare line = trimmed (before_first is_hash line)

-- the line goes on: what is left ends with a backslash
abbrev pub goes_on : Bytes → Bool
goes_on line = option_map_or is_backslash (last_or None (bare line)) false

-- the line without its comment and, if it goes on, without the backslash
abbrev pub said_part : Bytes → Bytes
said_part line =
    if goes_on line then take (length (bare line) - 1) (bare line) else before_first is_hash line

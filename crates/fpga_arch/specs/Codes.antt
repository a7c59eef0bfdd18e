-- What can be wrong with a line of an architecture, by its keyword and words and by what stands
-- before it.
use Rattle.std.specs.Prelude.{ℕ, ◌+◌, ◌==◌, nat_le, Bool, true, false, not, ◌&&◌, ◌||◌, List, [], ◌∷◌, length, filter_map, codes, bytes_eq, drop, slice_get, Option, Some, None, is_none, option_and_then, if◌then◌else◌}
use Rattle.std.specs.List.{list_all, list_any}
use Rattle.std.specs.Option.{option_or, option_map_or}
use Rattle.fpga_types.specs.declared.arch.Pattern.{Pattern}
use Rattle.fpga_types.specs.declared.arch.Pattern.TheVariants.{Subset, Wilton, Universal}
use Rattle.fpga_types.specs.declared.arch.PinSpec.{PinSpec}
use Rattle.fpga_types.specs.declared.limits.TheConstants.{CLASS_LIMIT, PAD_LIMIT, PIN_LIMIT, SHARE_LIMIT}
use Rattle.fpga_text.specs.declared.style.Style.TheVariants.{Joined}
use Rattle.fpga_text.specs.Bytes.{Bytes}
use Rattle.fpga_text.specs.Codes.{Codes, At, Past, End, faults_by}
use Rattle.fpga_text.specs.FirstFault.{Faults}
use Rattle.fpga_text.specs.Said.{is_text, whole_said, decimal_said, says_whole, says_decimal, past}
use Rattle.fpga_text.specs.Words.{Words, text_lines, line_count}
use Rattle.fpga_arch.specs.declared.cause.Cause.TheVariants.{MissingLine, NoNumber, PinForm, SegmentLength, NotUniform, OtherWidth, NoPattern, MixedClass, PastLimit, Repeated, SparseSegment}
use Rattle.fpga_arch.specs.declared.keyword.Keyword.{Keyword}
use Rattle.fpga_arch.specs.declared.keyword.Keyword.TheVariants.{IoRat, WidthIo, WidthX, WidthY, Inpin, Outpin, SwitchBlock, FcType, FcOutput, FcInput, FcPad, Segment}
use Rattle.fpga_arch.specs.Causes.{code_of}
use Rattle.fpga_arch.specs.Keywords.{ArchLine, arch_lines, is_of, keywords, may_repeat, word_behind}
use Rattle.fpga_arch.specs.Pins.{class_rest, has_class, is_opposed, lacks_sides, pin_of, side_words}
use Rattle.fpga_arch.specs.Segments.{lacks_length, leaves_out}

-- the first of these words is `uniform`
abbrev pub is_uniform : Words → Bool
is_uniform rest = is_text (codes "uniform") (slice_get rest 0)

-- the width that is said behind `uniform`
abbrev pub uniform_width : Words → Option ℕ
uniform_width rest = if is_uniform rest then decimal_said (slice_get (drop 1 rest) 0) else None

-- the width that the words behind a keyword say, in millionths, if it is one of the channels'
abbrev pub width_said : Words → Keyword → Option ℕ
width_said rest WidthIo = decimal_said (slice_get rest 0)
width_said rest WidthX = uniform_width rest
width_said rest WidthY = uniform_width rest
width_said rest _ = None

-- the width that a line says, in millionths, if it is one of the channels
abbrev pub width_of : ArchLine → Option ℕ
width_of line = width_said line.rest line.keyword

-- the pattern that a word names
abbrev pub pattern_named : Bytes → Option Pattern
pattern_named word =
    if bytes_eq word (codes "subset") then Some Subset
    else if bytes_eq word (codes "wilton") then Some Wilton
    else if bytes_eq word (codes "universal") then Some Universal else None

-- the pattern that the word names, if it is there
abbrev pub pattern_of : Option Bytes → Option Pattern
pattern_of word = option_and_then pattern_named word

-- whether a word says that pins open a part of the tracks, or that they open a number of them
abbrev pub fraction_named : Bytes → Option Bool
fraction_named word =
    if bytes_eq word (codes "fractional") then Some true
    else if bytes_eq word (codes "absolute") then Some false else None

-- the same of the word, if it is there
abbrev pub fraction_of : Option Bytes → Option Bool
fraction_of word = option_and_then fraction_named word

-- what stands before a line: which keywords have a line, whether a width differs from one that is
-- said there, and the pins
pub record Context : Type 0 where
  pub stands : Keyword → Bool
  pub differs : ℕ → Bool
  pub pins : List PinSpec

-- two widths differ
abbrev pub is_other : ℕ → ℕ → Bool
is_other width earlier = not (earlier == width)

-- the context behind these lines
abbrev pub context_of : List ArchLine → Context
context_of before = record {
  stands = λ keyword. list_any (is_of keyword) before;
  differs = λ width. list_any (is_other width) (filter_map width_of before);
  pins = filter_map pin_of before;
}

-- a decimal is due behind `uniform`, and the word is none
abbrev pub lacks_width : Words → Bool
lacks_width rest = is_uniform rest && not (says_decimal (λ _. true) (slice_get (drop 1 rest) 0))

-- a number is due behind `class:`, and the word is none
abbrev pub lacks_class : Words → Bool
lacks_class rest = has_class rest && not (says_whole (λ _. true) (slice_get (drop 1 rest) 0))

-- the first word is no decimal up to the limit
abbrev pub lacks_share : Words → Bool
lacks_share rest = not (says_decimal (λ d. nat_le d SHARE_LIMIT) (slice_get rest 0))

-- of the words behind a keyword: a number is due, and the word is none; or the type of a line
-- `Fc_type` is none
abbrev pub lacks_number_in : Words → Keyword → Bool
lacks_number_in rest IoRat = not (says_whole (λ n. nat_le 1 n) (slice_get rest 0))
lacks_number_in rest WidthIo = not (says_decimal (λ _. true) (slice_get rest 0))
lacks_number_in rest WidthX = lacks_width rest
lacks_number_in rest WidthY = lacks_width rest
lacks_number_in rest Inpin = lacks_class rest
lacks_number_in rest Outpin = lacks_class rest
lacks_number_in rest FcType = is_none (fraction_of (slice_get rest 0))
lacks_number_in rest FcOutput = lacks_share rest
lacks_number_in rest FcInput = lacks_share rest
lacks_number_in rest FcPad = lacks_share rest
lacks_number_in rest SwitchBlock = false
lacks_number_in rest Segment = false

-- a number is due, and the word is none
abbrev pub lacks_number : Context → ArchLine → Bool
lacks_number context line = lacks_number_in line.rest line.keyword

-- the line is one of a pin
abbrev pub is_pin : ArchLine → Bool
is_pin line = is_of Inpin line || is_of Outpin line

-- a pin without `class:`, without a side, or with another word among its sides
abbrev pub is_malformed : Context → ArchLine → Bool
is_malformed context line = is_pin line
    && (not (has_class line.rest) || lacks_sides (side_words (class_rest line.rest)))

-- a segment whose length is not 1
abbrev pub is_long_segment : Context → ArchLine → Bool
is_long_segment context line = is_of Segment line && lacks_length line.rest

-- a channel along rows or columns that is not uniform
abbrev pub is_not_uniform : Context → ArchLine → Bool
is_not_uniform context line = (is_of WidthX line || is_of WidthY line) && not (is_uniform line.rest)

-- a channel whose width differs from an earlier one
abbrev pub has_other_width : Context → ArchLine → Bool
has_other_width context line = option_map_or context.differs (width_of line) false

-- a pattern of switch blocks that is not known, or none
abbrev pub lacks_pattern : Context → ArchLine → Bool
lacks_pattern context line =
    is_of SwitchBlock line && is_none (pattern_of (slice_get line.rest 0))

-- a pin whose class an earlier pin of the other direction has
abbrev pub mixes_class : Context → ArchLine → Bool
mixes_class context line =
    option_map_or (λ (pin : PinSpec). list_any (is_opposed pin.class pin.output) context.pins)
    (pin_of line) false

-- of a line of pads how many stand at a place, above the limit
abbrev pub pads_past : ArchLine → Option ℕ
pads_past line = past PAD_LIMIT (whole_said (word_behind IoRat line))

-- of a pin line behind as many pins as may be the number of pins
abbrev pub pins_past : Context → ArchLine → Option ℕ
pins_past context line =
    if is_pin line && (length context.pins == PIN_LIMIT) then Some (PIN_LIMIT + 1) else None

-- of a pin line the class, above the limit
abbrev pub class_past : ArchLine → Option ℕ
class_past line =
    option_and_then (λ (pin : PinSpec). past CLASS_LIMIT (Some pin.class)) (pin_of line)

-- more pads at a place, more pins or a greater class than may be, and how many
abbrev pub past_limit : Context → ArchLine → Option ℕ
past_limit context line =
    option_or (pads_past line) (option_or (pins_past context line) (class_past line))

-- a keyword that may not repeat stands on an earlier line
abbrev pub is_repeated : Context → ArchLine → Bool
is_repeated context line = not (may_repeat line.keyword) && context.stands line.keyword

-- a segment that leaves out boxes or switches
abbrev pub is_sparse_segment : Context → ArchLine → Bool
is_sparse_segment context line = is_of Segment line && leaves_out line.rest

-- a keyword has no line
abbrev pub lacks_keyword : Context → Bool
lacks_keyword context = not (list_all context.stands keywords)

-- the codes of an architecture text, least first
abbrev pub arch_codes : Codes Context ArchLine
arch_codes = record {
  context = context_of;
  of_line = At (code_of NoNumber) lacks_number ∷ At (code_of PinForm) is_malformed
      ∷ At (code_of SegmentLength) is_long_segment ∷ At (code_of NotUniform) is_not_uniform
      ∷ At (code_of OtherWidth) has_other_width ∷ At (code_of NoPattern) lacks_pattern
      ∷ At (code_of MixedClass) mixes_class ∷ Past (code_of PastLimit) past_limit
      ∷ At (code_of Repeated) is_repeated ∷ At (code_of SparseSegment) is_sparse_segment ∷ [];
  of_end = End (code_of MissingLine) lacks_keyword ∷ [];
}

-- the faults of an architecture text, line by line; its end has the number after its last line
abbrev pub arch_faults : Bytes → Faults
arch_faults text =
    faults_by arch_codes (arch_lines (text_lines Joined text)) (line_count text + 1)

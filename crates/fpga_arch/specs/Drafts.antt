-- The value of an architecture text as far as it was read.
use Rattle.std.specs.Prelude.{◌≡◌, ◌≤◌, ℕ, Bool, true, false, All, AllPairs, List, [], ◌∷◌, ◌++◌, length, replicate, slice_set, slice_index_or, Option, Some, None, Result, unwrap_or}
use Rattle.std.specs.Option.{option_or}
use Rattle.fpga_types.specs.ArchSound.{AgreeInClass, IsSoundPin}
use Rattle.fpga_types.specs.Fc.{IsFcLimited}
use Rattle.fpga_types.specs.declared.arch.Arch.{Arch}
use Rattle.fpga_types.specs.declared.arch.PinSpec.{PinSpec}
use Rattle.fpga_types.specs.declared.limits.TheConstants.{PAD_LIMIT, PIN_LIMIT}
use Rattle.fpga_text.specs.declared.fault.TextFault.{TextFault}
use Rattle.fpga_text.specs.Codes.{line_fault}
use Rattle.fpga_text.specs.FirstFault.{AnswersFault}
use Rattle.fpga_text.specs.Said.{decimal_said, whole_said}
use Rattle.fpga_text.specs.Words.{TextLine}
use Rattle.fpga_arch.specs.declared.keyword.Keyword.{Keyword}
use Rattle.fpga_arch.specs.declared.keyword.Keyword.TheVariants.{IoRat, SwitchBlock, FcType, FcOutput, FcInput, FcPad}
use Rattle.fpga_arch.specs.ChannelLines.{differs_from}
use Rattle.fpga_arch.specs.Codes.{Context, arch_codes, fraction_of, pattern_of, width_of}
use Rattle.fpga_arch.specs.Keywords.{ArchLine, arch_line, place_of, word_behind}
use Rattle.fpga_arch.specs.Pins.{pin_of}
use Rattle.fpga_arch.specs.Value.{arch_of}

-- for each keyword whether it had a line, the width of the channels, if one had a line, and the
-- architecture that the lines say
pub record Progress : Type 0 where
  pub flags : List Bool
  pub width : Option ℕ
  pub arch : Arch

-- no line was read
abbrev pub START : Progress
START = record { flags = replicate 12 false; width = None; arch = arch_of [] }

-- the keyword had a line
abbrev pub stands_in : List Bool → Keyword → Bool
stands_in flags keyword = slice_index_or flags (place_of keyword) false

-- the keyword has one now
abbrev pub marked : List Bool → Keyword → List Bool
marked flags keyword = slice_set flags (place_of keyword) true

-- what stands before the next line
abbrev pub context_at : Progress → Context
context_at draft = record {
  stands = stands_in draft.flags;
  differs = differs_from draft.width;
  pins = draft.arch.pins;
}

-- why the next line is refused
abbrev pub fault_at : Progress → ℕ → ArchLine → Option TextFault
fault_at draft number line = line_fault arch_codes (context_at draft) number line

-- the pins with this one, if there is one
abbrev pub with_pin : List PinSpec → Option PinSpec → List PinSpec
with_pin pins None = pins
with_pin pins (Some pin) = pins ++ pin ∷ []

-- the architecture with what one more line says
abbrev pub arch_after : Arch → ArchLine → Arch
arch_after arch line = record {
  io_rat = unwrap_or (whole_said (word_behind IoRat line)) arch.io_rat;
  pins = with_pin arch.pins (pin_of line);
  pattern = unwrap_or (pattern_of (word_behind SwitchBlock line)) arch.pattern;
  fc = record {
    fractional = unwrap_or (fraction_of (word_behind FcType line)) arch.fc.fractional;
    output = unwrap_or (decimal_said (word_behind FcOutput line)) arch.fc.output;
    input = unwrap_or (decimal_said (word_behind FcInput line)) arch.fc.input;
    pad = unwrap_or (decimal_said (word_behind FcPad line)) arch.fc.pad;
  };
}

-- the draft with one more line
abbrev pub draft_after : Progress → ArchLine → Progress
draft_after draft line = record {
  flags = marked draft.flags line.keyword;
  width = option_or (width_of line) draft.width;
  arch = arch_after draft.arch line;
}

-- the line with this keyword and these words behind it is taken, unless it is refused
abbrev pub Takes : Keyword → Progress → Progress → TextLine → Result (Unit {0}) TextFault → Type 0
Takes keyword old new line result = AnswersFault
    (fault_at old line.number (record { keyword = keyword; rest = line.words }))
    (λ _. new ≡ draft_after old (record { keyword = keyword; rest = line.words })) result

-- why the next line of the text is refused, which may have no keyword
abbrev pub text_fault : Progress → ℕ → Option ArchLine → Option TextFault
text_fault draft number None = None
text_fault draft number (Some line) = fault_at draft number line

-- the draft with one more line of the text
abbrev pub text_after : Progress → Option ArchLine → Progress
text_after draft None = draft
text_after draft (Some line) = draft_after draft line

-- the line is taken, unless it is refused
abbrev pub TakesText : Progress → Progress → TextLine → Result (Unit {0}) TextFault → Type 0
TakesText old new line result = AnswersFault (text_fault old line.number (arch_line line.words))
    (λ _. new ≡ text_after old (arch_line line.words)) result

-- what is true of each draft
pub record IsDraft (flags : List Bool) (io_rat : ℕ) (pins : List PinSpec) (output input pad : ℕ)
    : Type 0 where
  pub io_rat_above : stands_in flags IoRat ≡ true → 1 ≤ io_rat
  pub io_rat_below : io_rat ≤ PAD_LIMIT
  pub pin_count : length pins ≤ PIN_LIMIT
  pub sound : All IsSoundPin pins
  pub classes : AllPairs AgreeInClass pins
  pub shares : IsFcLimited output input pad

-- The value that an architecture text reads as.
use Rattle.std.specs.Prelude.{◌≡◌, ℕ, false, List, fold, filter_map, map, Option, unwrap_or}
use Rattle.fpga_types.specs.Fc.{Fc}
use Rattle.fpga_types.specs.declared.arch.Arch.{Arch}
use Rattle.fpga_types.specs.declared.arch.Pattern.TheVariants.{Subset}
use Rattle.fpga_text.specs.declared.style.Style.TheVariants.{Joined}
use Rattle.fpga_text.specs.Bytes.{Bytes}
use Rattle.fpga_text.specs.FirstFault.{IsFaultless}
use Rattle.fpga_text.specs.Said.{decimal_said, whole_said}
use Rattle.fpga_text.specs.Words.{text_lines}
use Rattle.fpga_arch.specs.declared.keyword.Keyword.{Keyword}
use Rattle.fpga_arch.specs.declared.keyword.Keyword.TheVariants.{IoRat, SwitchBlock, FcType, FcOutput, FcInput, FcPad}
use Rattle.fpga_arch.specs.Keywords.{ArchLine, arch_lines, word_behind}
use Rattle.fpga_arch.specs.Pins.{pin_of}
use Rattle.fpga_arch.specs.Codes.{arch_faults, fraction_of, pattern_of}

-- what the last line says that says one, or else this
abbrev pub last_said : {X : Type 0} → (ArchLine → Option X) → X → List ArchLine → X
last_said said default lines = fold (λ so_far line. unwrap_or (said line) so_far) default lines

-- the decimal behind this keyword, in millionths
abbrev pub share_behind : Keyword → List ArchLine → ℕ
share_behind keyword lines = last_said (λ line. decimal_said (word_behind keyword line)) 0 lines

-- how many tracks the pins open
abbrev pub fc_of : List ArchLine → Fc
fc_of lines = record {
  fractional = last_said (λ line. fraction_of (word_behind FcType line)) false lines;
  output = share_behind FcOutput lines;
  input = share_behind FcInput lines;
  pad = share_behind FcPad lines;
}

-- the architecture that lines say: without faults each keyword but those of pins and segments has
-- one line
abbrev pub arch_of : List ArchLine → Arch
arch_of lines = record {
  io_rat = last_said (λ line. whole_said (word_behind IoRat line)) 0 lines;
  pins = filter_map pin_of lines;
  pattern = last_said (λ line. pattern_of (word_behind SwitchBlock line)) Subset lines;
  fc = fc_of lines;
}

-- what an architecture text reads as
abbrev pub arch_value : Bytes → Arch
arch_value text = arch_of (map (λ line. line.1) (arch_lines (text_lines Joined text)))

-- the text has no fault, and reads as this architecture
abbrev pub ReadsArch : Bytes → Arch → Type 0
ReadsArch text arch = IsFaultless (arch_faults text) × (arch ≡ arch_value text)

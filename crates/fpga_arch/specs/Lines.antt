-- What is true once the lines of an architecture text were taken.
use Rattle.std.specs.Prelude.{◌≡◌, ◌+◌, ◌||◌, false, List, fold, map}
use Rattle.std.specs.Option.{option_map_or}
use Rattle.fpga_types.specs.declared.arch.Arch.{Arch}
use Rattle.fpga_text.specs.Codes.{end_fault, faults_from}
use Rattle.fpga_text.specs.FirstFault.{Faults, first_fault}
use Rattle.fpga_text.specs.Reading.{LinesAhead}
use Rattle.fpga_text.specs.Words.{TextLine}
use Rattle.fpga_arch.specs.Codes.{Context, arch_codes, is_other, width_of}
use Rattle.fpga_arch.specs.Drafts.{Progress, arch_after, context_at, with_pin}
use Rattle.fpga_arch.specs.Keywords.{ArchLine, arch_lines, is_of}
use Rattle.fpga_arch.specs.Pins.{pin_of}

-- the context behind one more line
abbrev pub context_after : Context → ArchLine → Context
context_after context line = record {
  stands = λ keyword. context.stands keyword || is_of keyword line;
  differs =
      λ width. context.differs width || option_map_or (is_other width) (width_of line) false;
  pins = with_pin context.pins (pin_of line);
}

-- the faults of the lines that come after these, and of the end
abbrev pub faults_ahead : Progress → LinesAhead → Faults
faults_ahead draft lines = faults_from context_after arch_codes (context_at draft)
    (arch_lines lines.ahead) (lines.total + 1)

-- the architecture with what these lines say
abbrev pub arch_with : Arch → List TextLine → Arch
arch_with arch lines = fold arch_after arch (map (λ line. line.1) (arch_lines lines))

-- the lines had no fault, all were taken, and the draft has what they say
pub record ReadsLines (lines : LinesAhead) (draft : Progress) (lines_after : LinesAhead)
    (draft_after : Progress) : Type 0 where
  pub fault : first_fault (faults_ahead draft lines)
      ≡ end_fault arch_codes (context_at draft_after) (lines.total + 1)
  pub arch : draft_after.arch ≡ arch_with draft.arch lines.ahead
  pub taken : lines_after.taken ≡ lines.total

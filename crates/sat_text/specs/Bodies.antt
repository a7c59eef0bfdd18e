-- What becomes of the head line, and of the lines behind it.
use Rattle.std.specs.Prelude.{◌≡◌, List, [], Option, map, flat_map}
use Rattle.fpga_text.specs.declared.fault.TextFault.{TextFault}
use Rattle.fpga_text.specs.FirstFault.{Faults}
use Rattle.fpga_text.specs.Codes.{line_fault}
use Rattle.fpga_text.specs.Reading.{LinesAhead}
use Rattle.fpga_text.specs.Words.{TextLine, line_words}
use Rattle.sat_text.specs.declared.draft.Draft.{Draft}
use Rattle.sat_text.specs.declared.head.Head.{Head}
use Rattle.sat_text.specs.CnfText.{cnf_codes, context_of}
use Rattle.sat_text.specs.Drafts.{TakesNumbers, in_body}
use Rattle.sat_text.specs.Numbers.{numbers_of}
use Rattle.sat_text.specs.ToldLines.{told}

-- why the head line is refused
abbrev pub head_fault : TextLine → Option TextFault
head_fault line = line_fault cnf_codes (context_of []) line.number line.words

-- why a line behind this head line is refused
abbrev pub body_fault : Head → TextLine → Option TextFault
body_fault head line = line_fault cnf_codes (in_body head) line.number line.words

-- the faults of lines behind this head line
abbrev pub body_faults : Head → List TextLine → Faults
body_faults head lines = map (body_fault head) lines

-- all lines were taken
pub record TakesBody (old new : Draft) (before after : LinesAhead) : Type 0 where
  pub numbers : TakesNumbers old new (flat_map numbers_of (line_words (told before.ahead)))
  pub taken : after.taken ≡ before.total

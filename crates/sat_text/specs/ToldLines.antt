-- The lines of a CNF or an LRAT text that tell something.
use Rattle.std.specs.Prelude.{◌≡◌, ◌==◌, Bool, false, not, List, [], ◌∷◌, filter}
use Rattle.fpga_text.specs.declared.style.Style.TheVariants.{Plain}
use Rattle.fpga_text.specs.Bytes.{Bytes}
use Rattle.fpga_text.specs.Words.{TextLine, text_lines}
use Rattle.fpga_text.specs.Reading.{LinesAhead}

-- the first byte of the line is `c`
abbrev pub is_comment : Bytes → Bool
is_comment [] = false
is_comment (b ∷ more) = b == 99

-- the lines without the comments
abbrev pub told : List TextLine → List TextLine
told lines = filter (λ line. not (is_comment line.raw)) lines

-- the lines of a text that have words and are no comments
abbrev pub told_lines : Bytes → List TextLine
told_lines text = told (text_lines Plain text)

-- the next of these lines was taken
pub record TakesTold (old new : LinesAhead) (line : TextLine) : Type 0 where
  pub ahead : told old.ahead ≡ line ∷ told new.ahead
  pub total : new.total ≡ old.total

-- there was none any more, and all lines of the text were taken
pub record IsToldOut (old new : LinesAhead) : Type 0 where
  pub ahead : told old.ahead ≡ []
  pub taken : new.taken ≡ old.total

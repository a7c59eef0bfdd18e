-- What a reader of lines has before it.
use Rattle.std.specs.Prelude.{◌≡◌, ℕ, ◌+◌, ◌≤◌, List, [], ◌∷◌, if◌then◌else◌}
use Rattle.fpga_text.specs.Bytes.{is_empty}
use Rattle.fpga_text.specs.Words.{TextLine}

-- the lines that are still to come, how many lines of the text were taken, and how many it has,
-- those without words counted
pub record LinesAhead : Type 0 where
  pub ahead : List TextLine
  pub taken : ℕ
  pub total : ℕ

-- past the first of these lines, of a text with so many lines; past the whole text where there is
-- none
abbrev pub past_first : List TextLine → ℕ → LinesAhead
past_first [] total = record { ahead = []; taken = total; total = total }
past_first (line ∷ more) total = record { ahead = more; taken = line.last; total = total }

-- the next line is taken, and all before it
abbrev pub after_line : LinesAhead → LinesAhead
after_line lines = past_first lines.ahead lines.total

-- this line, if it has words, and then these lines
abbrev pub with_line : TextLine → List TextLine → List TextLine
with_line line more = if is_empty line.words then more else line ∷ more

-- the very next line was taken, with words or without
pub record TakesLine (old new : LinesAhead) (line : TextLine) : Type 0 where
  pub number : line.number ≡ old.taken + 1
  pub last : line.number ≤ line.last
  pub taken : new.taken ≡ line.last
  pub within : new.taken ≤ old.total
  pub total : new.total ≡ old.total
  pub ahead : old.ahead ≡ with_line line new.ahead

-- there was no line any more, and nothing changed
pub record IsAtEnd (old new : LinesAhead) : Type 0 where
  pub ahead : old.ahead ≡ []
  pub whole : old.taken ≡ old.total
  pub same : new ≡ old

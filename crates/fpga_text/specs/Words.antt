-- Lines and words of a whole text, by the rules that the texts of VPR 4.30, DIMACS and LRAT share.
use Rattle.std.specs.Prelude.{ℕ, Bool, true, not, List, [], ◌∷◌, ◌++◌, length, map, filter, if◌then◌else◌}
use Rattle.std.specs.List.{slice_split, before_first, enumerate_from}
use Rattle.fpga_text.specs.declared.style.Style.{Style}
use Rattle.fpga_text.specs.declared.style.Style.TheVariants.{Plain, Hash, Joined}
use Rattle.fpga_text.specs.Bytes.{Bytes, is_newline, is_blank, is_hash, is_empty}
use Rattle.fpga_text.specs.Joined.{goes_on, said_part}

-- the parts that newlines end, and the last part, if it is not empty
abbrev pub ended_parts : List Bytes → List Bytes
ended_parts [] = []
ended_parts (last ∷ []) = if is_empty last then [] else last ∷ []
ended_parts (part ∷ next ∷ more) = part ∷ ended_parts (next ∷ more)

-- the lines of a text, without their newlines
abbrev pub lines : Bytes → List Bytes
lines text = ended_parts (slice_split is_newline text)

-- the words of a line
abbrev pub Words : Type 0
Words = List Bytes

-- the words of a line: what stands between blanks
abbrev pub words : Bytes → Words
words line = filter (λ part. not (is_empty part)) (slice_split is_blank line)

-- the line without its comment, where the style has comments
abbrev pub without_comment : Style → Bytes → Bytes
without_comment Plain line = line
without_comment Hash line = before_first is_hash line
without_comment Joined line = before_first is_hash line

-- a line: its number, which is that of the first line of the text that is a part of it, the number
-- of the last one, the bytes of the first without the newline, and its words
pub record TextLine : Type 0 where
  pub number : ℕ
  pub last : ℕ
  pub raw : Bytes
  pub words : Words

-- the words of each line
abbrev pub line_words : List TextLine → List Words
line_words lines = map (λ line. line.words) lines

-- the line with this number and these bytes
abbrev pub text_line : Style → ℕ → Bytes → TextLine
text_line style number raw =
    record { number = number; last = number; raw = raw; words = words (without_comment style raw) }

-- the part of a line with this number and these bytes, alone
abbrev pub part_line : ℕ → Bytes → TextLine
part_line number raw =
    record { number = number; last = number; raw = raw; words = words (said_part raw) }

-- a part before lines; if it goes on, the first of these belongs to it
abbrev pub put_before : Bool → TextLine → List TextLine → List TextLine
put_before true part (next ∷ more) =
    record part { last = next.last; words = part.words ++ next.words } ∷ more
put_before _ part more = part ∷ more

-- the lines that numbered parts make, each of which may go on in the next
abbrev pub joined : List (ℕ × Bytes) → List TextLine
joined [] = []
joined (part ∷ more) = put_before (goes_on part.1) (part_line part.0 part.1) (joined more)

-- the lines that numbered lines of a text make: in most styles each makes one
abbrev pub lines_made : Style → List (ℕ × Bytes) → List TextLine
lines_made Joined parts = joined parts
lines_made style parts = map (λ part. text_line style part.0 part.1) parts

-- the lines that have words, of a text whose first line has this number
abbrev pub lines_from : Style → ℕ → Bytes → List TextLine
lines_from style first text =
    filter (λ line. not (is_empty line.words))
    (lines_made style (enumerate_from first (lines text)))

-- the words of a line that goes on in these lines of a text
abbrev pub words_behind : List Bytes → Words
words_behind [] = []
words_behind (part ∷ more) =
    words (said_part part) ++ (if goes_on part then words_behind more else [])

-- the words of a line that goes on in this text
abbrev pub words_later : Bytes → Words
words_later text = words_behind (lines text)

-- the lines of a text that have words, numbered from 1
abbrev pub text_lines : Style → Bytes → List TextLine
text_lines style text = lines_from style 1 text

-- how many lines the text has, those without words counted
abbrev pub line_count : Bytes → ℕ
line_count text = length (lines text)

-- the text is empty, or its first byte is one of a word
abbrev pub begins_word : Bytes → Bool
begins_word [] = true
begins_word (b ∷ more) = not (is_blank b)

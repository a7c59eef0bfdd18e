-- The words that lines of an architecture are told by: a profile of the architecture text of VPR
-- 4.30.
use Rattle.std.specs.Prelude.{ℕ, nat_eq, Bool, true, false, List, [], ◌∷◌, drop, find, filter_map, codes, bytes_eq, slice_get, Option, None, option_and_then, option_map, if◌then◌else◌}
use Rattle.fpga_text.specs.Bytes.{Bytes}
use Rattle.fpga_text.specs.Words.{Words, TextLine}
use Rattle.fpga_arch.specs.declared.keyword.Keyword.{Keyword}
use Rattle.fpga_arch.specs.declared.keyword.Keyword.TheVariants.{IoRat, WidthIo, WidthX, WidthY, Inpin, Outpin, SwitchBlock, FcType, FcOutput, FcInput, FcPad, Segment}

-- the word of a keyword
abbrev pub keyword_word : Keyword → Bytes
keyword_word IoRat = codes "io_rat"
keyword_word WidthIo = codes "chan_width_io"
keyword_word WidthX = codes "chan_width_x"
keyword_word WidthY = codes "chan_width_y"
keyword_word Inpin = codes "inpin"
keyword_word Outpin = codes "outpin"
keyword_word SwitchBlock = codes "switch_block_type"
keyword_word FcType = codes "Fc_type"
keyword_word FcOutput = codes "Fc_output"
keyword_word FcInput = codes "Fc_input"
keyword_word FcPad = codes "Fc_pad"
keyword_word Segment = codes "segment"

-- all keywords: each has to stand on a line
abbrev pub keywords : List Keyword
keywords =
    IoRat ∷ WidthIo ∷ WidthX ∷ WidthY ∷ Inpin ∷ Outpin ∷ SwitchBlock ∷ FcType ∷ FcOutput ∷ FcInput
    ∷ FcPad ∷ Segment ∷ []

-- the keyword may stand on several lines
abbrev pub may_repeat : Keyword → Bool
may_repeat Inpin = true
may_repeat Outpin = true
may_repeat Segment = true
may_repeat _ = false

-- the place of a keyword among all
abbrev pub place_of : Keyword → ℕ
place_of IoRat = 0
place_of WidthIo = 1
place_of WidthX = 2
place_of WidthY = 3
place_of Inpin = 4
place_of Outpin = 5
place_of SwitchBlock = 6
place_of FcType = 7
place_of FcOutput = 8
place_of FcInput = 9
place_of FcPad = 10
place_of Segment = 11

-- the keyword that a word is
abbrev pub keyword_of : Bytes → Option Keyword
keyword_of word = find (λ keyword. bytes_eq word (keyword_word keyword)) keywords

-- a line that is told by its keyword: this, and the words behind it
pub record ArchLine : Type 0 where
  pub keyword : Keyword
  pub rest : Words

-- the line has this keyword
abbrev pub is_of : Keyword → ArchLine → Bool
is_of keyword line = nat_eq (place_of keyword) (place_of line.keyword)

-- the first word behind this keyword, if the line has it
abbrev pub word_behind : Keyword → ArchLine → Option Bytes
word_behind keyword line = if is_of keyword line then slice_get line.rest 0 else None

-- the line that words make, if the first of them is a keyword
abbrev pub arch_line : Words → Option ArchLine
arch_line words = option_map (λ keyword. record { keyword = keyword; rest = drop 1 words })
    (option_and_then keyword_of (slice_get words 0))

-- the same, with the line's number
abbrev pub numbered_line : TextLine → Option (ℕ × ArchLine)
numbered_line line = option_map (λ l. (line.number, l)) (arch_line line.words)

-- the lines that begin with a keyword, each with its number; all others are skipped
abbrev pub arch_lines : List TextLine → List (ℕ × ArchLine)
arch_lines lines = filter_map numbered_line lines

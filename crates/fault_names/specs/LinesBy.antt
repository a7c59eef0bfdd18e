-- Lines of a text by their number, by their first word, and by the net in which they stand.
use Rattle.std.specs.Prelude.{ℕ, ◌==◌, ◌&&◌, Bool, nat_le, [], codes, drop, find, flat_map, fold, take, Option, if◌then◌else◌}
use Rattle.std.specs.List.{list_any}
use Rattle.fpga_text.specs.Bytes.{Bytes}
use Rattle.fpga_text.specs.Said.{begins}
use Rattle.fpga_text.specs.Words.{TextLine, Words, text_lines}
use Rattle.fpga_text.specs.declared.style.Style.{Style}
use Rattle.fpga_text.specs.declared.style.Style.TheVariants.{Hash, Joined}

-- the line with this number, if it has words
abbrev pub line_with : Style → Bytes → (number : ℕ) → Option TextLine
line_with style text number =
    find (λ (line : TextLine). line.number == number) (text_lines style text)

-- a line begins with this word
abbrev pub has_line : Bytes → (word : Bytes) → Bool
has_line text word =
    list_any (λ (line : TextLine). begins word line.words) (text_lines Joined text)

-- the words behind this one, on a line that begins with it
abbrev pub behind_here : (word : Bytes) → Words → Words
behind_here word words = if begins word words then drop 1 words else []

-- the words behind this one, on each line that begins with it
abbrev pub words_behind : (word : Bytes) → Bytes → Words
words_behind word text =
    flat_map (λ (line : TextLine). behind_here word line.words) (text_lines Joined text)

-- the first word of each line behind the head, which is two lines
abbrev pub first_words : Bytes → Words
first_words text =
    flat_map (λ (line : TextLine). take 1 line.words) (drop 2 (text_lines Hash text))

-- the line begins a net, and has this number or a lower one
abbrev pub begins_net : (number : ℕ) → TextLine → Bool
begins_net number line = begins (codes "Net") line.words && nat_le line.number number

-- the number of the last such line, or 0 where there is none
abbrev pub last_net : (number : ℕ) → (found : ℕ) → TextLine → ℕ
last_net number found line = if begins_net number line then line.number else found

abbrev pub net_line_at : Bytes → (number : ℕ) → ℕ
net_line_at text number = fold (last_net number) 0 (text_lines Hash text)

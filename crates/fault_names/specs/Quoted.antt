-- A line as it stands, cut to what a person takes in, and the net in which it stands.
use Rattle.std.specs.Prelude.{ℕ, ◌==◌, ◌++◌, List, [], codes, drop, flat_map, length, nat_le, take, if◌then◌else◌}
use Rattle.std.specs.Option.{option_map_or}
use Rattle.fpga_text.specs.Bytes.{Bytes}
use Rattle.fpga_text.specs.Words.{TextLine, Words}
use Rattle.fpga_text.specs.declared.style.Style.{Style}
use Rattle.fpga_text.specs.declared.style.Style.TheVariants.{Hash}
use Rattle.fault_names.specs.LinesBy.{line_with, net_line_at}
use Rattle.fault_names.specs.NameBytes.{name_said}

-- a word, of a long one the front
abbrev pub word_cut : Bytes → List ℕ
word_cut word =
    if nat_le (length word) 60 then name_said word else name_said (take 60 word) ++ codes ".."

abbrev pub word_quoted : Bytes → List ℕ
word_quoted word = codes " " ++ word_cut word

-- the words, of many the first, each behind a blank
abbrev pub quoted : Words → List ℕ
quoted words =
    if nat_le (length words) 7 then flat_map word_quoted words
    else flat_map word_quoted (take 7 words) ++ codes " .."

-- the words of the line with this number
abbrev pub line_quoted : Style → Bytes → (number : ℕ) → List ℕ
line_quoted style text number =
    option_map_or (λ (line : TextLine). codes ":" ++ quoted line.words)
    (line_with style text number) []

-- the line that begins the net in which a line stands, where it is another one
abbrev pub net_quoted : Bytes → (number at : ℕ) → List ℕ
net_quoted text number at = if at == number then [] else
    option_map_or (λ (line : TextLine). codes ", of Net" ++ quoted (drop 1 line.words))
    (line_with Hash text at) []

-- a line of a route, and the net in which it stands
abbrev pub route_line_quoted : Bytes → (number : ℕ) → List ℕ
route_line_quoted text number = option_map_or
    (λ (line : TextLine). codes ":" ++ quoted line.words
    ++ net_quoted text number (net_line_at text number))
    (line_with Hash text number) []

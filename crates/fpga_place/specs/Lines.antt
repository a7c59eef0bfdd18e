-- What the lines of a placement say: a profile of the placement text of VPR 4.30.
use Rattle.std.specs.Prelude.{ℕ, ◌^◌, nat_lt, Bool, false, ◌&&◌, List, [], ◌∷◌, map, codes, bytes_eq, Option, Some, None, option_and_then, if◌then◌else◌}
use Rattle.fpga_types.specs.declared.placement.Place.{Place}
use Rattle.fpga_text.specs.ArrayLine.{SizeWords, size_words}
use Rattle.fpga_text.specs.Bytes.{Bytes}
use Rattle.fpga_text.specs.Numbers.{whole_number_of}
use Rattle.fpga_text.specs.Words.{TextLine, Words}

-- the words round the two names in the first line
abbrev pub is_file_frame : (netlist file architecture again : Bytes) → Bool
is_file_frame netlist file architecture again =
    bytes_eq netlist (codes "Netlist") && bytes_eq file (codes "file:")
    && bytes_eq architecture (codes "Architecture") && bytes_eq again (codes "file:")

-- `Netlist file: F Architecture file: G`
abbrev pub is_file_line : Words → Bool
is_file_line (netlist ∷ file ∷ f ∷ architecture ∷ again ∷ g ∷ []) =
    is_file_frame netlist file architecture again
is_file_line _ = false

-- the number of 32 bits that a word says
abbrev pub small_number_of : Bytes → Option ℕ
small_number_of word =
    option_and_then (λ n. if nat_lt n (2 ^ 32) then Some n else None) (whole_number_of word)

-- the place of these numbers, if each is there
abbrev pub place_at : (x y sub : Option ℕ) → Option Place
place_at (Some x) (Some y) (Some sub) = Some (record { x = x; y = y; sub = sub })
place_at _ _ _ = None

-- the place that the words behind a name say
abbrev pub place_said : Words → Option Place
place_said (x ∷ y ∷ sub ∷ more) =
    place_at (small_number_of x) (small_number_of y) (small_number_of sub)
place_said _ = None

-- what a line says: the first, whether it is a file line; the second, which words say the size, if
-- it is an array line; a later one, a block's name and its place, if its numbers are some
pub data Form : Type 0 where
  Files : Bool → Form
  Array : Option SizeWords → Form
  Block : Bytes → Option Place → Form

-- what a line behind the head says
abbrev pub block_form : Words → Form
block_form [] = Block [] None
block_form (name ∷ more) = Block name (place_said more)

-- the place that a line says
abbrev pub form_place : Form → Option Place
form_place (Block name place) = place
form_place _ = None

-- lines behind the head by their numbers and by what they say
abbrev pub block_forms : List TextLine → List (ℕ × Form)
block_forms lines = map (λ (line : TextLine). (line.number, block_form line.words)) lines

-- the lines of a text by their numbers and by what they say
abbrev pub forms : List TextLine → List (ℕ × Form)
forms [] = []
forms (first ∷ []) = (first.number, Files (is_file_line first.words)) ∷ []
forms (first ∷ second ∷ more) = (first.number, Files (is_file_line first.words))
    ∷ (second.number, Array (size_words second.words)) ∷ block_forms more

-- what numbered lines say
abbrev pub said : List (ℕ × Form) → List Form
said numbered = map (λ (line : ℕ × Form). line.1) numbered

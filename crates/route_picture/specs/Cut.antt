-- The cut that a file of names says, as `bound` says it.
use Rattle.std.specs.Prelude.{ℕ, nat_le, List, [], ◌∷◌, Option, Some, None, codes, option_and_then, slice_get, if◌then◌else◌}
use Rattle.fpga_route.specs.Forms.{place_words}
use Rattle.fpga_text.specs.Bytes.{Bytes}
use Rattle.fpga_text.specs.Numbers.{whole_number_of}
use Rattle.fpga_text.specs.Said.{begins}
use Rattle.fpga_text.specs.Words.{TextLine, text_lines}
use Rattle.fpga_text.specs.declared.style.Style.TheVariants.{Plain}
use Rattle.fpga_types.specs.declared.grid.SwitchAt.{SwitchAt}
use Rattle.fpga_types.specs.declared.limits.TheConstants.{SIDE_LIMIT}
use Rattle.route_draw.specs.Cut.{CutSaid}

-- the number that a word says, if it is no larger than the side of an array may be
abbrev pub side_said : Bytes → Option ℕ
side_said word = option_and_then
    (λ n. if nat_le n SIDE_LIMIT then Some n else None) (whole_number_of word)

-- the corner with these numbers, if both are there
abbrev pub corner_at : (i j : Option ℕ) → Option SwitchAt
corner_at (Some i) (Some j) = Some (record { i = i; j = j })
corner_at _ _ = None

-- the corner that the two parts of a place say
abbrev pub corner_in : Option (Bytes × Bytes) → Option SwitchAt
corner_in None = None
corner_in (Some place) = corner_at (side_said place.0) (side_said place.1)

-- the corner that a word `(I,J)` says
abbrev pub corner_of : Bytes → Option SwitchAt
corner_of word = corner_in (place_words word)

-- the same, if there is a word
abbrev pub corner_said : Option Bytes → Option SwitchAt
corner_said word = option_and_then corner_of word

-- the cut round the rectangle between two corners, if both are there, by the line that says it
abbrev pub cut_between : (line : Bytes) → (low high : Option SwitchAt) → Option CutSaid
cut_between line (Some low) (Some high) =
    Some (record { range = record { low = low; high = high }; line = line })
cut_between line _ _ = None

-- the cut that a line says: its first words are `cut` and two corners
abbrev pub cut_in : TextLine → Option CutSaid
cut_in line = if begins (codes "cut") line.words
    then cut_between line.raw (corner_said (slice_get line.words 1))
    (corner_said (slice_get line.words 2)) else None

-- this cut, or else that one
abbrev pub cut_or : (first later : Option CutSaid) → Option CutSaid
cut_or (Some cut) later = Some cut
cut_or None later = later

-- the first cut that one of these lines says
abbrev pub first_cut : List TextLine → Option CutSaid
first_cut [] = None
first_cut (line ∷ more) = cut_or (cut_in line) (first_cut more)

-- the first that a text says, if there is a text
abbrev pub cut_said : Option Bytes → Option CutSaid
cut_said None = None
cut_said (Some text) = first_cut (text_lines Plain text)

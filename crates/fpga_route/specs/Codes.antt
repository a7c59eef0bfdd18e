-- What can be wrong with a line of a route text, by its form and by what stands before it.
use Rattle.std.specs.Prelude.{ℕ, ◌+◌, ◌^◌, ◌==◌, nat_lt, Bool, true, false, not, ◌&&◌, List, [], ◌∷◌, fold, map, Option, Some, None, unwrap_or, if◌then◌else◌}
use Rattle.std.specs.Option.{option_map_or}
use Rattle.fpga_types.specs.ArraySize.{lacks_size, said_size, size_past}
use Rattle.fpga_types.specs.Size.{Size}
use Rattle.fpga_types.specs.Sound.{has_place}
use Rattle.fpga_types.specs.declared.limits.TheConstants.{NET_LIMIT}
use Rattle.fpga_text.specs.declared.style.Style.TheVariants.{Hash}
use Rattle.fpga_text.specs.Bytes.{Bytes}
use Rattle.fpga_text.specs.Codes.{Codes, At, Past, End, faults_by}
use Rattle.fpga_text.specs.FirstFault.{Faults}
use Rattle.fpga_text.specs.Numbers.{whole_number_of}
use Rattle.fpga_text.specs.Words.{TextLine, line_count, text_lines}
use Rattle.fpga_route.specs.Causes.{code_of}
use Rattle.fpga_route.specs.Forms.{ElemWords, Form, Array, Routing, OtherHead, Net, Elem, Block, Span, OtherLine, array_form, later_form, routing_form}
use Rattle.fpga_route.specs.declared.cause.Cause.TheVariants.{HeadForm, LineForm, NoNumber, SpannedChannel, StrayElement, NoPlace, PastLimit}

-- the word is a whole number with this property
abbrev pub is_number : (ℕ → Bool) → Bytes → Bool
is_number test word = option_map_or test (whole_number_of word) false

-- the number that a word says
abbrev pub number_of : Bytes → ℕ
number_of word = unwrap_or (whole_number_of word) 0

-- what stands before a line: the array, whether the head has ended, how many Net lines there are,
-- and whether the net that the line stands in is global, if it stands in one
pub record Context : Type 0 where
  pub grid : Option Size
  pub in_body : Bool
  pub nets : ℕ
  pub in_global : Option Bool

-- before the first line
abbrev pub START : Context
START = record { grid = None; in_body = false; nets = 0; in_global = None }

-- behind a line of this form
abbrev pub behind : Context → Form → Context
behind context (Array size) = record context { grid = said_size size }
behind context Routing = record context { in_body = true }
behind context (Net net) =
    record context { nets = context.nets + 1; in_global = Some net.global }
behind context _ = context

-- a head line of another form
abbrev pub is_other_head : Context → Form → Bool
is_other_head context OtherHead = true
is_other_head context _ = false

-- a head line is missing
abbrev pub lacks_head : Context → Bool
lacks_head context = not context.in_body

-- a later line of no form, or a Block line outside a global net
abbrev pub is_other_line : Context → Form → Bool
is_other_line context OtherLine = true
is_other_line context Block = not (unwrap_or context.in_global false)
is_other_line context _ = false

-- the number fits 32 bits
abbrev pub is_32_bits : ℕ → Bool
is_32_bits n = nat_lt n (2 ^ 32)

-- the element has a word that is no number of 32 bits
abbrev pub lacks_elem : ElemWords → Bool
lacks_elem e = not (is_number is_32_bits e.x && is_number is_32_bits e.y
    && is_number is_32_bits e.number)

-- a number is due, and the word is none
abbrev pub lacks_number : Context → Form → Bool
lacks_number context (Array size) = lacks_size size
lacks_number context (Net net) = not (is_number (λ _. true) net.k)
lacks_number context (Elem e) = lacks_elem e
lacks_number context _ = false

-- a channel that spans several cells
abbrev pub is_spanned : Context → Form → Bool
is_spanned context Span = true
is_spanned context _ = false

-- an element line before the first net or in a global net
abbrev pub is_stray : Context → Form → Bool
is_stray context (Elem e) = not (option_map_or not context.in_global false)
is_stray context _ = false

-- the element can't stand where its numbers say
abbrev pub is_misplaced : Size → ElemWords → Bool
is_misplaced grid e =
    is_number (λ x. is_number (λ y. not (has_place grid e.kind x y)) e.y) e.x

-- a place that the array does not have
abbrev pub lacks_place : Context → Form → Bool
lacks_place context (Elem e) = option_map_or (λ grid. is_misplaced grid e) context.grid false
lacks_place context _ = false

-- more columns, rows or nets than may be, and how many
abbrev pub past_limit : Context → Form → Option ℕ
past_limit context (Array size) = size_past size
past_limit context (Net net) =
    if context.nets == NET_LIMIT then Some (context.nets + 1) else None
past_limit context _ = None

-- the codes of a route text, least first
abbrev pub route_codes : Codes Context Form
route_codes = record {
  context = fold behind START;
  of_line = At (code_of HeadForm) is_other_head ∷ At (code_of LineForm) is_other_line
      ∷ At (code_of NoNumber) lacks_number ∷ At (code_of SpannedChannel) is_spanned
      ∷ At (code_of StrayElement) is_stray ∷ At (code_of NoPlace) lacks_place
      ∷ Past (code_of PastLimit) past_limit ∷ [];
  of_end = End (code_of HeadForm) lacks_head ∷ [];
}

-- lines after the head by their numbers and forms
abbrev pub later_forms : List TextLine → List (ℕ × Form)
later_forms lines = map (λ (line : TextLine). (line.number, later_form line.words)) lines

-- the lines of a text by their numbers and forms
abbrev pub forms : List TextLine → List (ℕ × Form)
forms [] = []
forms (first ∷ []) = (first.number, array_form first.words) ∷ []
forms (first ∷ second ∷ more) = (first.number, array_form first.words)
    ∷ (second.number, routing_form second.words) ∷ later_forms more

-- the faults of a text with these lines, `count` in all
abbrev pub lines_faults : List TextLine → ℕ → Faults
lines_faults lines count = faults_by route_codes (forms lines) (count + 1)

-- the faults of a route text, line by line
abbrev pub route_faults : Bytes → Faults
route_faults text = lines_faults (text_lines Hash text) (line_count text)

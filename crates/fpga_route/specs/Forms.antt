-- Which form a line of a route text has, by its words: a profile of the route text of VPR 4.30.
use Rattle.std.specs.Prelude.{ℕ, ◌+◌, ◌-◌, ◌==◌, nat_eq, nat_le, Bool, true, false, ◌&&◌, [], ◌∷◌, length, slice_range, find, codes, bytes_eq, Option, Some, None, is_some, if◌then◌else◌}
use Rattle.std.specs.List.{starts_with, ends_with, before_first, after_first, list_any}
use Rattle.std.specs.Option.{option_map_or}
use Rattle.fpga_text.specs.ArrayLine.{SizeWords, size_words}
use Rattle.fpga_text.specs.Bytes.{Bytes}
use Rattle.fpga_text.specs.Words.{Words}
use Rattle.fpga_types.specs.Kinds.{takes}
use Rattle.fpga_types.specs.declared.route.ElemKind.{ElemKind}
use Rattle.fpga_types.specs.declared.route.ElemKind.TheVariants.{Source, Opin, ChanX, ChanY, Ipin, Sink}
use Rattle.fpga_types.specs.declared.route.Label.{Label}
use Rattle.fpga_types.specs.declared.route.Label.TheVariants.{Class, Pin, Pad, Track}

-- the parts of a Net line
pub record NetWords : Type 0 where
  pub k : Bytes
  pub name : Bytes
  pub global : Bool

-- the parts of an element line
pub record ElemWords : Type 0 where
  pub kind : ElemKind
  pub x : Bytes
  pub y : Bytes
  pub label : Label
  pub number : Bytes

-- `Routing:`
abbrev pub is_routing : Words → Bool
is_routing (word ∷ []) = bytes_eq word (codes "Routing:")
is_routing _ = false

-- what stands between an opening and a closing text at the ends of a word
abbrev pub enclosed : Bytes → Bytes → Bytes → Option Bytes
enclosed opening closing word =
    if starts_with nat_eq word opening && ends_with nat_eq word closing && nat_le
    (length opening + length closing) (length word)
    then Some (slice_range word (length opening) (length word - length closing)) else None

-- a Net line, if it has a name and the name is not empty
abbrev pub named_net : Bytes → Bool → Option Bytes → Option NetWords
named_net k global None = None
named_net k global (Some []) = None
named_net k global (Some (byte ∷ more)) =
    Some (record { k = k; name = byte ∷ more; global = global })

-- the words round the number and the name of a global net
abbrev pub is_global_frame : (net global word connecting : Bytes) → Bool
is_global_frame net global word connecting =
    bytes_eq net (codes "Net") && bytes_eq global (codes "global") && bytes_eq word
    (codes "net") && bytes_eq connecting (codes "connecting:")

-- `Net k (name)`, or `Net k (name): global net connecting:`
abbrev pub net_words : Words → Option NetWords
net_words (net ∷ k ∷ name ∷ []) =
    if bytes_eq net (codes "Net") then named_net k false
    (enclosed (codes "(") (codes ")") name) else None
net_words (net ∷ k ∷ name ∷ global ∷ word ∷ connecting ∷ []) =
    if is_global_frame net global word connecting then named_net k true
    (enclosed (codes "(") (codes "):") name) else None
net_words _ = None

-- the word of a kind
abbrev pub kind_word : ElemKind → Bytes
kind_word Source = codes "SOURCE"
kind_word Opin = codes "OPIN"
kind_word ChanX = codes "CHANX"
kind_word ChanY = codes "CHANY"
kind_word Ipin = codes "IPIN"
kind_word Sink = codes "SINK"

-- the kind that a word names
abbrev pub kind_of : Bytes → Option ElemKind
kind_of word =
    find (λ kind. bytes_eq word (kind_word kind)) (Source ∷ Opin ∷ ChanX ∷ ChanY ∷ Ipin ∷ Sink ∷ [])

-- the word of a label
abbrev pub label_word : Label → Bytes
label_word Class = codes "Class:"
label_word Pin = codes "Pin:"
label_word Pad = codes "Pad:"
label_word Track = codes "Track:"

-- the label that a word names
abbrev pub label_of : Bytes → Option Label
label_of word = find (λ label. bytes_eq word (label_word label)) (Class ∷ Pin ∷ Pad ∷ Track ∷ [])

-- the byte is a comma
abbrev pub is_comma : ℕ → Bool
is_comma b = b == 44

-- the two sides of the first comma, where there is one
abbrev pub comma_parts : Option Bytes → Option (Bytes × Bytes)
comma_parts None = None
comma_parts (Some text) =
    if list_any is_comma text then Some
    (before_first is_comma text, after_first is_comma text) else None

-- the parts of a place `(x,y)`
abbrev pub place_words : Bytes → Option (Bytes × Bytes)
place_words word = comma_parts (enclosed (codes "(") (codes ")") word)

-- the parts of an element line, where they are there and the kind takes the label
abbrev pub elem_of_parts : Option ElemKind → Option (Bytes × Bytes) → Option Label → Bytes
    → Option ElemWords
elem_of_parts (Some kind) (Some place) (Some label) number =
    if takes kind label then Some
    (record { kind = kind; x = place.0; y = place.1; label = label; number = number }) else None
elem_of_parts _ _ _ number = None

-- a kind, a place, a label of the kind and a number
abbrev pub elem_words : Words → Option ElemWords
elem_words (kind ∷ place ∷ label ∷ number ∷ []) =
    elem_of_parts (kind_of kind) (place_words place) (label_of label) number
elem_words _ = None

-- the first word is `Block`
abbrev pub is_block : Words → Bool
is_block [] = false
is_block (word ∷ more) = bytes_eq word (codes "Block")

-- the first word is a kind and the third is `to`
abbrev pub is_span : Words → Bool
is_span (kind ∷ place ∷ to ∷ more) = is_some (kind_of kind) && bytes_eq to (codes "to")
is_span _ = false

-- what a line says: the head has an array line and `Routing:`, and after it come Net lines, element
-- lines, Block lines, and channels that span several cells
pub data Form : Type 0 where
  Array : SizeWords → Form
  Routing : Form
  OtherHead : Form
  Net : NetWords → Form
  Elem : ElemWords → Form
  Block : Form
  Span : Form
  OtherLine : Form

-- the form of the first line
abbrev pub array_form : Words → Form
array_form words = option_map_or Array (size_words words) OtherHead

-- the form of the second line
abbrev pub routing_form : Words → Form
routing_form words = if is_routing words then Routing else OtherHead

-- the form of a line after the head
abbrev pub later_form : Words → Form
later_form words = option_map_or Net (net_words words) (option_map_or Elem (elem_words words)
    (if is_block words then Block else if is_span words then Span else OtherLine))

-- The value that a route text reads as: its array, and its nets with the lines that follow them.
use Rattle.std.specs.Prelude.{◌≡◌, ℕ, Bool, true, false, not, List, [], ◌∷◌, drop, filter_map, take_while, slice_get, Option, Some, None, option_and_then, unwrap_or}
use Rattle.std.specs.Option.{option_map_or}
use Rattle.fpga_types.specs.Size.{Size}
use Rattle.fpga_types.specs.declared.route.Elem.{Elem}
use Rattle.fpga_types.specs.declared.route.RouteNet.{RouteNet}
use Rattle.fpga_types.specs.declared.route.RouteText.{RouteText}
use Rattle.fpga_text.specs.declared.style.Style.TheVariants.{Hash}
use Rattle.fpga_text.specs.Bytes.{Bytes}
use Rattle.fpga_text.specs.FirstFault.{IsFaultless}
use Rattle.fpga_text.specs.Words.{TextLine, text_lines, line_count}
use Rattle.fpga_route.specs.Codes.{number_of, route_faults}
use Rattle.fpga_route.specs.Forms.{NetWords, ElemWords, Form, Net, Elem as ElemForm, Block, array_form, later_form}
use Rattle.fpga_route.specs.Heads.{said_grid}

-- the element of an element line
abbrev pub elem_of : ℕ → ElemWords → Elem
elem_of line e = record {
  kind = e.kind;
  x = number_of e.x;
  y = number_of e.y;
  label = e.label;
  number = number_of e.number;
  line = line;
}

-- the element of a line, if it is an element line
abbrev pub form_elem : ℕ → Form → Option Elem
form_elem line (ElemForm e) = Some (elem_of line e)
form_elem line _ = None

-- the line as it stood, if it is a Block line
abbrev pub form_kept : Bytes → Form → Option Bytes
form_kept raw Block = Some raw
form_kept raw _ = None

-- the line is a Net line
abbrev pub begins_net : Form → Bool
begins_net (Net net) = true
begins_net _ = false

-- the elements of these lines
abbrev pub elems_of : List TextLine → List Elem
elems_of lines =
    filter_map (λ (line : TextLine). form_elem line.number (later_form line.words)) lines

-- the Block lines among them
abbrev pub kept_of : List TextLine → List Bytes
kept_of lines = filter_map (λ (line : TextLine). form_kept line.raw (later_form line.words)) lines

-- the net of a Net line and the lines of the net
abbrev pub net_of : NetWords → ℕ → List TextLine → RouteNet
net_of net line own = record {
  k = number_of net.k;
  name = net.name;
  global = net.global;
  line = line;
  elems = elems_of own;
  kept = kept_of own;
}

-- the lines of a net: those up to the next Net line
abbrev pub own_lines : List TextLine → List TextLine
own_lines lines = take_while (λ line. not (begins_net (later_form line.words))) lines

-- the net that a line begins, if it is a Net line, before the nets that follow
abbrev pub with_net : Form → ℕ → List TextLine → List RouteNet → List RouteNet
with_net (Net net) line more nets = net_of net line (own_lines more) ∷ nets
with_net _ line more nets = nets

-- the nets of the lines after the head
abbrev pub nets_of : List TextLine → List RouteNet
nets_of [] = []
nets_of (line ∷ more) = with_net (later_form line.words) line.number more (nets_of more)

-- the size that the head says
abbrev pub grid_of : List TextLine → Size
grid_of lines = unwrap_or
    (option_and_then (λ line. said_grid (array_form line.words)) (slice_get lines 0))
    (record { nx = 0; ny = 0 })

-- what the lines of a text with `count` lines read as
abbrev pub value_of : List TextLine → ℕ → RouteText
value_of lines count = record {
  grid = grid_of lines;
  grid_line = option_map_or (λ line. line.number) (slice_get lines 0) 0;
  lines = count;
  nets = nets_of (drop 2 lines);
}

-- what a text reads as
abbrev pub route_value : Bytes → RouteText
route_value text = value_of (text_lines Hash text) (line_count text)

-- the text has no fault and reads as this value
abbrev pub Reads : Bytes → RouteText → Type 0
Reads text value = IsFaultless (route_faults text) × (value ≡ route_value text)

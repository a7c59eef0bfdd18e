-- What the parts of a line are, as the forms of a route text name them.
use Rattle.fpga_route.specs.declared.forms.NetLine.{NetLine}
use Rattle.fpga_route.specs.declared.forms.ElemLine.{ElemLine}
use Rattle.fpga_route.specs.declared.forms.LineForm.{LineForm}
use Rattle.fpga_route.specs.declared.forms.LineForm.TheVariants.{Net as NetOf, Elem as ElemOf, Block as BlockOf, Span as SpanOf, Other}
use Rattle.fpga_route.specs.declared.words.PlaceWord.{PlaceWord}
use Rattle.fpga_text.specs.Bytes.{Bytes}
use Rattle.fpga_route.specs.Forms.{NetWords, ElemWords, Form, Net, Elem, Block, Span, OtherLine}

-- the words of a Net line
abbrev pub net_said : NetLine → NetWords
net_said line = record { k = line.k.now; name = line.name.now; global = line.global }

-- the words of an element line
abbrev pub elem_said : ElemLine → ElemWords
elem_said line = record {
  kind = line.kind;
  x = line.x.now;
  y = line.y.now;
  label = line.label;
  number = line.number.now;
}

-- the two sides of the comma of a place
abbrev pub place_said : PlaceWord → Bytes × Bytes
place_said place = (place.x.now, place.y.now)

-- the form of a line
abbrev pub form_said : LineForm → Form
form_said (NetOf net) = Net (net_said net)
form_said (ElemOf elem) = Elem (elem_said elem)
form_said BlockOf = Block
form_said SpanOf = Span
form_said Other = OtherLine

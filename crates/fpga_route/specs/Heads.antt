-- The two head lines of a route text.
use Rattle.std.specs.Prelude.{◌≡◌, ℕ, ◌∷◌, Option, Some, None}
use Rattle.fpga_types.specs.ArraySize.{said_size}
use Rattle.fpga_types.specs.Size.{Size}
use Rattle.fpga_text.specs.declared.fault.TextFault.{TextFault}
use Rattle.fpga_text.specs.Codes.{line_fault}
use Rattle.fpga_text.specs.Reading.{LinesAhead}
use Rattle.fpga_text.specs.Words.{TextLine}
use Rattle.fpga_route.specs.declared.head.Head.{Head}
use Rattle.fpga_route.specs.Codes.{START, route_codes}
use Rattle.fpga_route.specs.Forms.{Form, Array, Routing, array_form, routing_form}

-- why the first line is refused
abbrev pub array_fault : ℕ → Form → Option TextFault
array_fault number form = line_fault route_codes START number form

-- the array that a line says, if it is an array line
abbrev pub said_grid : Form → Option Size
said_grid (Array size) = said_size size
said_grid _ = None

-- both head lines were taken, and this is what they say
pub record IsHead (old new : LinesAhead) (head : Head) : Type 0 where
  pub first : TextLine
  pub second : TextLine
  pub ahead : old.ahead ≡ first ∷ second ∷ new.ahead
  pub total : new.total ≡ old.total
  pub clean : array_fault first.number (array_form first.words) ≡ None
  pub grid : said_grid (array_form first.words) ≡ Some head.grid
  pub routing : routing_form second.words ≡ Routing
  pub line : head.line ≡ first.number

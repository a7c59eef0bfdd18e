-- Which routes can be printed, and what it means that a printed route reads back as an equal value.
use Rattle.std.specs.Prelude.{◌≡◌, ◌<◌, ◌≤◌, ◌^◌, true, false, not, IsTrue, [], ◌∷◌, length, All, map}
use Rattle.std.specs.List.{list_all}
use Rattle.fpga_types.specs.Size.{Size, AreLimited}
use Rattle.fpga_types.specs.Sound.{IsSoundElem}
use Rattle.fpga_types.specs.declared.limits.TheConstants.{NET_LIMIT}
use Rattle.fpga_types.specs.declared.route.Elem.{Elem}
use Rattle.fpga_types.specs.declared.route.RouteNet.{RouteNet}
use Rattle.fpga_types.specs.declared.route.RouteText.{RouteText}
use Rattle.fpga_text.specs.declared.style.Style.TheVariants.{Hash}
use Rattle.fpga_text.specs.Bytes.{Bytes, is_newline}
use Rattle.fpga_text.specs.Words.{Words, without_comment, words}
use Rattle.fpga_route.specs.Forms.{Block, later_form}
use Rattle.fpga_route.specs.Printed.{printed}
use Rattle.fpga_route.specs.Value.{Reads}

-- no byte of the row is a newline
abbrev pub IsOneLine : Bytes → Type 0
IsOneLine row = IsTrue (list_all (λ b. not (is_newline b)) row)

-- the words of a line of a route text
abbrev pub words_of : Bytes → Words
words_of line = words (without_comment Hash line)

-- the row is one line, of one word
pub record IsName (name : Bytes) : Type 0 where
  pub one_line : IsOneLine name
  pub one_word : words_of name ≡ name ∷ []

-- the row is one line, a Block line
pub record IsKeptLine (raw : Bytes) : Type 0 where
  pub one_line : IsOneLine raw
  pub block : later_form (words_of raw) ≡ Block

-- the element has a label of its kind, stands where its kind may, and has numbers of 32 bits
pub record IsPrintableElem (grid : Size) (e : Elem) : Type 0 where
  pub sound : IsSoundElem grid e
  pub x : e.x < 2 ^ 32
  pub y : e.y < 2 ^ 32
  pub number : e.number < 2 ^ 32

-- the net has a number of 64 bits and a name of one word; its elements can be printed, or if it is
-- global it has kept lines alone
pub record IsPrintableNet (grid : Size) (net : RouteNet) : Type 0 where
  pub k : net.k < 2 ^ 64
  pub name : IsName net.name
  pub elems : All (IsPrintableElem grid) net.elems
  pub kept : All IsKeptLine net.kept
  pub no_elems : net.global ≡ true → net.elems ≡ []
  pub no_kept : net.global ≡ false → net.kept ≡ []

-- the array and the number of nets are within their limits, and each net can be printed
pub record IsPrintable (route : RouteText) : Type 0 where
  pub size : AreLimited route.grid.nx route.grid.ny
  pub limit : length route.nets ≤ NET_LIMIT
  pub nets : All (IsPrintableNet route.grid) route.nets

-- the element, with 0 in place of the number of its line
abbrev pub elem_without_line : Elem → Elem
elem_without_line e = record e { line = 0 }

-- the net, with 0 in place of the numbers of its lines
abbrev pub net_without_lines : RouteNet → RouteNet
net_without_lines net = record net { line = 0; elems = map elem_without_line net.elems }

-- the route, with 0 in place of each number of a line and of the count of lines
abbrev pub without_lines : RouteText → RouteText
without_lines route =
    record route { grid_line = 0; lines = 0; nets = map net_without_lines route.nets }

-- the routes are equal, whatever lines they stand on
abbrev pub SameButLines : RouteText → RouteText → Type 0
SameButLines a b = without_lines a ≡ without_lines b

-- the printed form has no fault and reads as the route, whatever lines it stands on
abbrev pub ReadsBack : RouteText → Type 0
ReadsBack route = (value : RouteText) × Reads (printed route) value × SameButLines value route

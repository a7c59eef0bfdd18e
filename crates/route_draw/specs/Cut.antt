-- Which cells are those of a cut, and what is drawn over them.
use Rattle.std.specs.Prelude.{◌≡◌, ℕ, Bool, true, false, List, [], ◌++◌, Option, codes, option_map}
use Rattle.fpga_text.specs.Bytes.{Bytes}
use Rattle.fpga_types.specs.Size.{Size}
use Rattle.fpga_types.specs.declared.grid.Cell.{Cell}
use Rattle.route_bound.specs.Corners.{is_cut_cell}
use Rattle.route_bound.specs.Ranges.{corners_of}
use Rattle.route_bound.specs.declared.range.CornerRange.{CornerRange}
use Rattle.route_draw.specs.Area.{area}
use Rattle.route_draw.specs.Crowded.{AreFirstCells}
use Rattle.route_draw.specs.Parts.{AreParts}
use Rattle.route_draw.specs.declared.cut.ShownCut.{ShownCut}

-- a cut that is to be shown: the rectangle of corners round which it goes, and the line that says
-- it
pub record CutSaid : Type 0 where
  pub range : CornerRange
  pub line : Bytes

abbrev pub cut_of : Option ShownCut → Option CutSaid
cut_of cut = option_map (λ (c : ShownCut). record { range = c.range; line = c.line.now }) cut

-- of a cell of the array: a band over it if it is one of the cut, and else nothing
abbrev pub IsBandIf : Bool → Cell → List ℕ → Type 0
IsBandIf true cell text =
    text ≡ codes "<path d=\"" ++ area cell.axis cell.x cell.y ++ codes "\"/>"
IsBandIf false cell text = text ≡ []

abbrev pub IsBand : CornerRange → Cell → List ℕ → Type 0
IsBand range cell text = IsBandIf (is_cut_cell (corners_of range) cell) cell text

-- the bands over so many first cells of the array
pub record AreBands (grid : Size) (range : CornerRange) (count : ℕ) (bands : List ℕ) :
    Type 0 where
  pub cells : List Cell
  pub are_first : AreFirstCells grid count cells
  pub are_bands : AreParts (IsBand range) cells bands

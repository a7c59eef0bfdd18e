-- Which cells are marked.
use Rattle.std.specs.Prelude.{◌≡◌, ℕ, Bool, true, false, IsTrue, List, [], ◌++◌, All, codes, decimal, filter, length, map, nat_lt}
use Rattle.std.specs.List.{range_with_len}
use Rattle.fpga_types.specs.CellNumbers.{cell_count, number_of_cell}
use Rattle.fpga_types.specs.Fabric.{is_cell}
use Rattle.fpga_types.specs.Size.{Size}
use Rattle.fpga_types.specs.declared.grid.Axis.{Axis}
use Rattle.fpga_types.specs.declared.grid.Axis.TheVariants.{X, Y}
use Rattle.fpga_types.specs.declared.grid.Cell.{Cell}
use Rattle.route_draw.specs.Area.{area}
use Rattle.route_draw.specs.Caption.{IsKey}
use Rattle.route_draw.specs.Parts.{Adds, AreParts}
use Rattle.route_draw.specs.Wires.{Layout}

-- the kind of a cell's channel
abbrev pub kind_of : Axis → List ℕ
kind_of X = codes "CHANX"
kind_of Y = codes "CHANY"

-- the title of a mark: the kind of channel and the place of the cell, and how many tracks it wants
-- of how many
abbrev pub place_said : (kind : List ℕ) → (x y : ℕ) → List ℕ
place_said kind x y =
    codes "\"><title>" ++ kind ++ codes " (" ++ decimal x ++ codes "," ++ decimal y

abbrev pub wanted_said : (want width : ℕ) → List ℕ
wanted_said want width =
    codes "): " ++ (decimal want ++ (codes " tracks wanted of " ++ (decimal width
    ++ codes "</title></path>\n")))

abbrev pub mark_title : Cell → (want width : ℕ) → List ℕ
mark_title cell want width =
    place_said (kind_of cell.axis) cell.x cell.y ++ wanted_said want width

-- of a cell that wants so many tracks: a red mark over it with its title if it is crowded, and else
-- nothing
abbrev pub IsMarkIf : Bool → Cell → (want width : ℕ) → List ℕ → Type 0
IsMarkIf true cell want width text =
    text ≡ codes "<path class=\"x\" d=\"" ++ area cell.axis cell.x cell.y
    ++ mark_title cell want width
IsMarkIf false cell want width text = text ≡ []

-- a cell is crowded: it wants more tracks than there are
abbrev pub is_crowded : (wants : Cell → ℕ) → (width : ℕ) → Cell → Bool
is_crowded wants width cell = nat_lt width (wants cell)

abbrev pub IsMark : (wants : Cell → ℕ) → (width : ℕ) → Cell → List ℕ → Type 0
IsMark wants width cell text =
    IsMarkIf (is_crowded wants width cell) cell (wants cell) width text

-- they are the first cells of the array, so many and each once
pub record AreFirstCells (grid : Size) (count : ℕ) (cells : List Cell) : Type 0 where
  pub within : All (λ cell. IsTrue (is_cell grid cell)) cells
  pub each_once : map (number_of_cell grid) cells ≡ range_with_len 0 count

-- so many first cells of the array that are crowded were counted, and the marks on them are this
-- text
pub record AreMarks (grid : Size) (wants : Cell → ℕ) (width count crowded : ℕ) (marks : List ℕ) :
    Type 0 where
  pub cells : List Cell
  pub are_first : AreFirstCells grid count cells
  pub are_marks : AreParts (IsMark wants width) cells marks
  pub counted : crowded ≡ length (filter (is_crowded wants width) cells)

-- marks on these first cells were added to a text
abbrev pub AddsMarks : Size → (wants : Cell → ℕ) → (width count crowded : ℕ) →
    (old new : List ℕ) → Type 0
AddsMarks grid wants width count crowded = Adds (AreMarks grid wants width count crowded)

-- a mark on each crowded cell of the array and on no other, and a key that says how many these are
pub record AreCrowded (layout : Layout) (marks key : List ℕ) : Type 0 where
  pub crowded : ℕ
  pub are_marks :
      AreMarks layout.grid layout.wants layout.width (cell_count layout.grid) crowded marks
  pub is_key : IsKey crowded key

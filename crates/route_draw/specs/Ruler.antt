-- The numbers of columns and rows beside an array.
use Rattle.std.specs.Prelude.{◌≡◌, ℕ, zero, suc, ◌+◌, ◌-◌, ◌*◌, ◌/◌, ◌%◌, ◌==◌, List, [], ◌++◌, codes, decimal, nat_le, if◌then◌else◌}
use Rattle.fpga_types.specs.Size.{Size}
use Rattle.route_draw.specs.declared.scale.TheConstants.{BLOCK, TILE}

-- from one number to the next on a side of so many blocks
abbrev pub step_of : (count : ℕ) → ℕ
step_of count = if nat_le count 12 then 1 else if nat_le count 60 then 5 else 10

-- a number at its place on an axis
abbrev pub number_at : (axis : List ℕ) → (at number : ℕ) → List ℕ
number_at axis at number =
    codes "<text " ++ axis ++ codes "=\"" ++ decimal at ++ codes "\">" ++ decimal number
    ++ codes "</text>\n"

-- the same if the step divides it, and else nothing
abbrev pub number_if : (step : ℕ) → (axis : List ℕ) → (at number : ℕ) → List ℕ
number_if step axis at number =
    if number % step == 0 then number_at axis at number else []

-- the numbers below a bound, each at its place
abbrev pub numbers : (step : ℕ) → (axis : List ℕ) → (place : ℕ → ℕ) → (bound : ℕ) → List ℕ
numbers step axis place zero = []
numbers step axis place (suc n) =
    numbers step axis place n ++ number_if step axis (place n) n

-- the middle of a column, from the left, and that of a row, from above where there are so many
abbrev pub column_place : (column : ℕ) → ℕ
column_place column = column * TILE + BLOCK / 2

abbrev pub row_place : (count row : ℕ) → ℕ
row_place count row = (count + 1 - row) * TILE + BLOCK / 2

-- those of the columns of an array, from that of the pads on the left on
abbrev pub columns : (count : ℕ) → List ℕ
columns count = numbers (step_of count) (codes "x") column_place (count + 1)

-- those of the rows, from that of the pads below on
abbrev pub rows : (count : ℕ) → List ℕ
rows count = numbers (step_of count) (codes "y") (row_place count) (count + 1)

-- what numbers begin with: how far they are moved to the right and down
abbrev pub ruler_opening : (class : List ℕ) → (right down : ℕ) → List ℕ
ruler_opening class right down =
    codes "<g class=\"" ++ (class ++ (codes "\" transform=\"translate(" ++ (decimal right
    ++ (codes " " ++ (decimal down ++ codes ")\">\n")))))

-- the numbers of columns, and those of rows
pub record AreRulers (grid : Size) (text : List ℕ) : Type 0 where
  pub right : ℕ
  pub below : ℕ
  pub beside : ℕ
  pub down : ℕ
  pub text_is : text
      ≡ ruler_opening (codes "r") right below ++ columns grid.nx ++ codes "</g>\n"
      ++ ruler_opening (codes "r e") beside down ++ rows grid.ny ++ codes "</g>\n"

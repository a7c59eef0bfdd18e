-- Rectangles of corners, and the straight lines among their cuts.
use Rattle.std.specs.Prelude.{ℕ, ◌+◌, ◌-◌, ◌*◌, ◌≤◌, nat_le, nat_lt, Bool, ◌&&◌, if◌then◌else◌}
use Rattle.fpga_types.specs.Size.{Size}
use Rattle.route_bound.specs.Corners.{Corners}
use Rattle.route_bound.specs.declared.range.CornerRange.{CornerRange}
use Rattle.route_bound.specs.declared.range.LineKind.{LineKind}
use Rattle.route_bound.specs.declared.range.LineKind.TheVariants.{Column, Row}

-- n is one of the numbers from a to b
abbrev pub is_between : (a b n : ℕ) → Bool
is_between a b n = nat_le a n && nat_le n b

-- the corners of a rectangle
abbrev pub corners_of : CornerRange → Corners
corners_of range at =
    is_between range.low.i range.high.i at.i && is_between range.low.j range.high.j at.j

-- the rectangle has a corner, and none out of the array
pub record IsRange (grid : Size) (range : CornerRange) : Type 0 where
  pub columns : range.low.i ≤ range.high.i
  pub rows : range.low.j ≤ range.high.j
  pub within_x : range.high.i ≤ grid.nx
  pub within_y : range.high.j ≤ grid.ny

-- the corners on the left of a straight line behind column c, or below one behind row c
abbrev pub line_range : Size → LineKind → (c : ℕ) → CornerRange
line_range grid Column c =
    record { low = record { i = 0; j = 0 }; high = record { i = c; j = grid.ny } }
line_range grid Row c =
    record { low = record { i = 0; j = 0 }; high = record { i = grid.nx; j = c } }

-- how many straight lines of a kind the array has
abbrev pub line_count : Size → LineKind → ℕ
line_count grid Column = grid.nx
line_count grid Row = grid.ny

-- how many columns, and how many rows, of a rectangle's corners have a cell on the one side, and on
-- the other
abbrev pub side_count : (low high most : ℕ) → ℕ
side_count low high most = (if nat_lt 0 low then 1 else 0) + (if nat_lt high most then 1 else 0)

-- how many cells the cut round a rectangle of the array has
abbrev pub cut_size : Size → CornerRange → ℕ
cut_size grid range =
    (range.high.j + 1 - range.low.j) * side_count range.low.i range.high.i grid.nx
    + (range.high.i + 1 - range.low.i) * side_count range.low.j range.high.j grid.ny

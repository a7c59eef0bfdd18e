-- The straight line that most nets cross, of each kind.
use Rattle.std.specs.Prelude.{◌≡◌, ℕ, ◌<◌, ◌≤◌, Bool, false, List, filter, get_or, if◌then◌else◌, length, slice_get}
use Rattle.std.specs.List.{range_with_len}
use Rattle.std.specs.Option.{option_map_or}
use Rattle.fpga_types.specs.Problem.{PlacedNetlist}
use Rattle.fpga_types.specs.declared.netlist.Net.{Net}
use Rattle.route_bound.specs.Crossing.{crosses, crossing}
use Rattle.route_bound.specs.Ranges.{corners_of, line_count, line_range}
use Rattle.route_bound.specs.declared.range.LineKind.{LineKind}

-- how many nets cross a straight line
abbrev pub line_crossings : PlacedNetlist → LineKind → (line : ℕ) → ℕ
line_crossings placed kind line =
    length (crossing placed (corners_of (line_range placed.placement.grid kind line)))

-- there is such a line, and as many nets cross it as any of its kind
pub record IsBestLine (placed : PlacedNetlist) (kind : LineKind) (line : ℕ) : Type 0 where
  pub there : line < line_count placed.placement.grid kind
  pub most : (c : ℕ) → c < line_count placed.placement.grid kind
      → line_crossings placed kind c ≤ line_crossings placed kind line

-- whether the net crosses the straight line
abbrev pub crosses_line : PlacedNetlist → LineKind → Net → (line : ℕ) → Bool
crosses_line placed kind net line =
    crosses placed (corners_of (line_range placed.placement.grid kind line)) net

-- one, if it is so
abbrev pub one_if : Bool → ℕ
one_if is = if is then 1 else 0

-- how many of the first so many nets cross a straight line
abbrev pub crossings_among : PlacedNetlist → LineKind → (nets line : ℕ) → ℕ
crossings_among placed kind nets line =
    length (filter (λ number. option_map_or (λ net. crosses_line placed kind net line)
    (slice_get placed.netlist.nets number) false) (range_with_len 0 nets))

-- for each straight line a row says how many of the first so many nets cross it
abbrev pub AreCounted : PlacedNetlist → LineKind → (nets : ℕ) → List ℕ → Type 0
AreCounted placed kind nets row = (line : ℕ) → line < line_count placed.placement.grid kind
    → get_or row line 0 ≡ crossings_among placed kind nets line

-- at this place stands the first of the greatest numbers of the row
pub record IsFirstGreatest (row : List ℕ) (at : ℕ) : Type 0 where
  pub there : at < length row
  pub greatest : (k : ℕ) → k < length row → get_or row k 0 ≤ get_or row at 0
  pub first : (k : ℕ) → k < at → get_or row k 0 < get_or row at 0

-- What is said of a cut that was chosen.
use Rattle.std.specs.Prelude.{◌≡◌, ℕ, ◌*◌, ◌<◌, ◌≤◌, length}
use Rattle.fpga_types.specs.Problem.{PlacedNetlist}
use Rattle.fpga_types.specs.declared.limits.TheConstants.{NET_LIMIT}
use Rattle.route_bound.specs.Crossing.{IsBound, IsLeast, crossing, cut_cells, tracks_wanted}
use Rattle.route_bound.specs.Lines.{line_crossings}
use Rattle.route_bound.specs.Ranges.{IsRange, corners_of, line_count, line_range}
use Rattle.route_bound.specs.declared.cut.Cut.{Cut}
use Rattle.route_bound.specs.declared.cut.Crossed.{Crossed}
use Rattle.route_bound.specs.declared.range.LineKind.{LineKind}

-- how many cells a straight line has
abbrev pub line_cells : PlacedNetlist → LineKind → (line : ℕ) → ℕ
line_cells placed kind line = length (cut_cells placed.placement.grid
    (corners_of (line_range placed.placement.grid kind line)))

-- so many nets at so many cells ask for at least as many tracks as each straight line does: by the
-- nets for each cell
abbrev pub BeatsLines : PlacedNetlist → (nets cells : ℕ) → Type 0
BeatsLines placed nets cells = (kind : LineKind) (line : ℕ)
    → line < line_count placed.placement.grid kind
    → line_crossings placed kind line * cells ≤ nets * line_cells placed kind line

-- so many nets cross a straight line at most, and each has so many cells
pub record IsFullLine (placed : PlacedNetlist) (kind : LineKind) (nets cells : ℕ) : Type 0 where
  pub most : (line : ℕ) → line < line_count placed.placement.grid kind
      → line_crossings placed kind line ≤ nets
  pub size : (line : ℕ) → line < line_count placed.placement.grid kind
      → line_cells placed kind line ≡ cells

-- the rectangle is one of the array, its cut has so many cells, at least one, and these nets cross
-- it
pub record IsCrossed (placed : PlacedNetlist) (crossed : Crossed) : Type 0 where
  pub range : IsRange placed.placement.grid crossed.range
  pub some : 1 ≤ crossed.cells
  pub cells : crossed.cells ≡ length (cut_cells placed.placement.grid (corners_of crossed.range))
  pub nets : crossed.nets.items ≡ crossing placed (corners_of crossed.range)
  pub few : length crossed.nets.items ≤ NET_LIMIT

-- the cut with the least number of tracks that it asks for
abbrev pub cut_of : Crossed → Cut
cut_of crossed = record {
  range = crossed.range;
  cells = crossed.cells;
  nets = crossed.nets.items;
  tracks = tracks_wanted (length crossed.nets.items) crossed.cells;
}

-- the same of a cut, which asks for no fewer tracks than each straight line; the tracks are the
-- least number that it asks for, and no placed routing has fewer
pub record IsBestCut (placed : PlacedNetlist) (cut : Cut) : Type 0 where
  pub range : IsRange placed.placement.grid cut.range
  pub some : 1 ≤ cut.cells
  pub cells : cut.cells ≡ length (cut_cells placed.placement.grid (corners_of cut.range))
  pub nets : cut.nets ≡ crossing placed (corners_of cut.range)
  pub lines : BeatsLines placed (length cut.nets) cut.cells
  pub tracks : IsLeast (length cut.nets) cut.cells cut.tracks
  pub bound : IsBound placed cut.tracks

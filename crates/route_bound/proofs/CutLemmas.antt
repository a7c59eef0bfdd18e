-- Straight lines and their sizes, and which cut is as full as all of them.
use Rattle.std.proofs.Common.{◌≡◌, ℕ, Bool, true, false, suc, ◌+◌, ◌*◌, ◌<◌, ◌≤◌, length, refl, sym, ap, ◌∙◌, subst, arith}
use Rattle.std.specs.Prelude.{nat_lt, slice_get}
use Rattle.std.specs.List.{range_with_len}
use Rattle.std.specs.Option.{option_map_or}
use Rattle.std.proofs.Math.Nat.{le_of_mul-le-mul_right, mul-le-mul_right}
use Rattle.std.proofs.lemmas.Bool.{le-leb, leb-false, leb-true, lt-leb}
use Rattle.std.proofs.lemmas.List.FromFn.{length-range_with_len}
use Rattle.std.proofs.lemmas.List.Sums.{count_by-le-length, length-filter}
use Rattle.fpga_types.specs.Problem.{PlacedNetlist}
use Rattle.fpga_types.specs.Size.{Size}
use Rattle.route_bound.specs.Corners.{Corners}
use Rattle.route_bound.specs.Crossing.{IsBound, IsLeast, bound_of, crosses, crossing, cut_cells, tracks_wanted}
use Rattle.route_bound.specs.Cuts.{BeatsLines, IsBestCut, IsCrossed, IsFullLine, cut_of, line_cells}
use Rattle.route_bound.specs.Lines.{IsBestLine, line_crossings}
use Rattle.route_bound.specs.Ranges.{IsRange, corners_of, cut_size, line_count, line_range}
use Rattle.route_bound.specs.declared.cut.Crossed.{Crossed}
use Rattle.route_bound.specs.declared.range.CornerRange.{CornerRange}
use Rattle.route_bound.specs.declared.range.LineKind.{LineKind}
use Rattle.route_bound.specs.declared.range.LineKind.TheVariants.{Column, Row}
use Rattle.route_bound.proofs.InsideLemmas.{is-bound, least-wanted}
use Rattle.route_bound.proofs.SizeLemmas.{size-is}

-- ---- straight lines

pub line-range : (grid : Size) (kind : LineKind) (line : ℕ) → line < line_count grid kind
    → IsRange grid (line_range grid kind line)
line-range grid Column line h = record {
  columns = omega arith;
  rows = omega arith;
  within_x = omega (arith, h);
  within_y = omega arith;
}
line-range grid Row line h = record {
  columns = omega arith;
  rows = omega arith;
  within_x = omega arith;
  within_y = omega (arith, h);
}

-- how many cells each line of a kind has
abbrev pub across : Size → LineKind → ℕ
across grid Column = grid.ny + 1
across grid Row = grid.nx + 1

pub line-size : (grid : Size) (kind : LineKind) (line : ℕ) → line < line_count grid kind
    → cut_size grid (line_range grid kind line) ≡ across grid kind
line-size grid Column line h =
    rw (le-leb (suc line) grid.nx h, lt-leb (suc grid.ny) grid.ny (omega arith)) (omega arith)
line-size grid Row line h =
    rw (le-leb (suc line) grid.ny h, lt-leb (suc grid.nx) grid.nx (omega arith)) (omega arith)

pub line-some : (grid : Size) (kind : LineKind) → 1 ≤ across grid kind
line-some grid Column = omega arith
line-some grid Row = omega arith

pub line-cells : (placed : PlacedNetlist) (kind : LineKind) (line : ℕ)
    → line < line_count placed.placement.grid kind
    → line_cells placed kind line ≡ across placed.placement.grid kind
line-cells placed kind line h =
    size-is placed.placement.grid (line_range placed.placement.grid kind line)
    (line-range placed.placement.grid kind line h)
    ∙ line-size placed.placement.grid kind line h

-- ---- fuller cuts

module _ (placed : PlacedNetlist) where
  beats-kind : (kind : LineKind) (n k nets cells line : ℕ) → IsFullLine placed kind n k
      → n * cells ≤ nets * k → line < line_count placed.placement.grid kind
      → line_crossings placed kind line * cells ≤ nets * line_cells placed kind line
  beats-kind kind n k nets cells line full fuller there =
      let most = mul-le-mul_right cells (full.most line there) in
      rw (full.size line there) (omega (arith, most, fuller))

  pub beats-both : (n k m h nets cells : ℕ) → IsFullLine placed Column n k
      → IsFullLine placed Row m h → n * cells ≤ nets * k → m * cells ≤ nets * h
      → BeatsLines placed nets cells
  beats-both n k m h nets cells columns rows a b = go
    where
      go : (kind : LineKind) (line : ℕ) → line < line_count placed.placement.grid kind
          → line_crossings placed kind line * cells ≤ nets * line_cells placed kind line
      go Column line there = beats-kind Column n k nets cells line columns a there
      go Row line there = beats-kind Row m h nets cells line rows b there

  pub beats-more : (n k nets cells : ℕ) → BeatsLines placed n k → 1 ≤ k
      → n * cells ≤ nets * k → BeatsLines placed nets cells
  beats-more n k nets cells beats some fuller = λ kind line there.
      longer (line_crossings placed kind line) (line_cells placed kind line)
      (beats kind line there)
    where
      longer : (a b : ℕ) → a * k ≤ n * b → a * cells ≤ nets * b
      longer a b h =
          let first : a * k * cells ≤ n * b * cells = mul-le-mul_right cells h in
          let second : n * cells * b ≤ nets * k * b = mul-le-mul_right b fuller in
          let both : a * cells * k ≤ nets * b * k = omega (arith, first, second) in
          le_of_mul-le-mul_right both some

-- what a test of two numbers says
pub fuller-yes : (a b : ℕ) (is : Bool) → is ≡ nat_lt a b → is ≡ true → a ≤ b
fuller-yes a b is e h = let under = leb-true (suc a) b (sym e ∙ h) in omega (arith, under)

pub fuller-no : (a b : ℕ) (is : Bool) → is ≡ nat_lt a b → is ≡ false → b ≤ a
fuller-no a b is e h = let over = leb-false (suc a) b (sym e ∙ h) in omega (arith, over)

-- ---- the cut that is chosen

pub wanted-least : (nets cells : ℕ) → 1 ≤ cells → IsLeast nets cells (tracks_wanted nets cells)
wanted-least nets cells some = record {
  some = omega arith;
  enough = omega (arith, some);
  least = λ fewer above enough. least-wanted nets cells fewer above enough;
}

pub cut-best : (placed : PlacedNetlist) (crossed : Crossed) → IsCrossed placed crossed
    → BeatsLines placed (length crossed.nets.items) crossed.cells
    → IsBestCut placed (cut_of crossed)
cut-best placed crossed is lines =
    let asked : bound_of placed (corners_of crossed.range)
    ≡ tracks_wanted (length crossed.nets.items) crossed.cells =
    rw (is.cells, is.nets) refl in
    record {
      range = is.range;
      some = is.some;
      cells = is.cells;
      nets = is.nets;
      lines = lines;
      tracks = wanted-least (length crossed.nets.items) crossed.cells is.some;
      bound = subst (λ (b : ℕ). IsBound placed b) asked
          (is-bound placed (corners_of crossed.range));
    }

-- ---- what was counted

pub crossing-few : (placed : PlacedNetlist) (corners : Corners)
    → length (crossing placed corners) ≤ length placed.netlist.nets
crossing-few placed corners =
    let test = λ (number : ℕ). option_map_or (crosses placed corners)
    (slice_get placed.netlist.nets number) false in
    let numbers = range_with_len 0 (length placed.netlist.nets) in
    omega (
      arith,
      length-filter test numbers,
      count_by-le-length test numbers,
      length-range_with_len 0 (length placed.netlist.nets),
    )

-- a line that most nets of its kind cross, as the cut that was looked at
pub full-line : (placed : PlacedNetlist) (kind : LineKind) (line : ℕ) (crossed : Crossed)
    → IsBestLine placed kind line → IsCrossed placed crossed
    → crossed.range ≡ line_range placed.placement.grid kind line
    → IsFullLine placed kind (length crossed.nets.items) crossed.cells
full-line placed kind line crossed best is at =
    let nets : length crossed.nets.items ≡ line_crossings placed kind line =
    ap length is.nets
    ∙ ap (λ (r : CornerRange). length (crossing placed (corners_of r))) at in
    let cells : crossed.cells ≡ line_cells placed kind line =
    is.cells
    ∙ ap (λ (r : CornerRange). length (cut_cells placed.placement.grid (corners_of r))) at in
    record {
      most = λ other there. omega (arith, nets, best.most other there);
      size = λ other there. line-cells placed kind other there
          ∙ sym (cells ∙ line-cells placed kind line best.there);
    }

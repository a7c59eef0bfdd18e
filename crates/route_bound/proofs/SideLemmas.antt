-- A cut is the same from either side.
use Rattle.std.proofs.Common.{◌≡◌, Bool, true, false, length, refl, ap, ◌∙◌}
use Rattle.std.specs.Prelude.{◌&&◌, ◌||◌, filter, not, slice_get}
use Rattle.std.specs.List.{list_any, range_with_len}
use Rattle.std.specs.Option.{option_map_or}
use Rattle.fpga_types.specs.CellNumbers.{all_cells}
use Rattle.fpga_types.specs.Problem.{PlacedNetlist}
use Rattle.fpga_types.specs.Terminals.{driver_in, sinks_in}
use Rattle.fpga_types.specs.declared.grid.Cell.{Cell}
use Rattle.fpga_types.specs.declared.netlist.Net.{Net}
use Rattle.fpga_types.specs.declared.problem.Terminal.{Terminal}
use Rattle.route_bound.specs.Corners.{Corners, far_corner, has_corner_in, has_corner_out, is_cut_cell, near_corner, other_side}
use Rattle.route_bound.specs.Crossing.{HasTwoSides, are_across}
use Rattle.route_bound.specs.Lying.{Cells, lies_in}

not-twice : (b : Bool) → not (not b) ≡ b
not-twice true = refl
not-twice false = refl

and-turned : (a b : Bool) → (a && b) ≡ (b && a)
and-turned true true = refl
and-turned true false = refl
and-turned false true = refl
and-turned false false = refl

or-turned : (a b : Bool) → (a || b) ≡ (b || a)
or-turned true true = refl
or-turned true false = refl
or-turned false true = refl
or-turned false false = refl

module _ (corners : Corners) where
  in-again : (cell : Cell)
      → has_corner_out (other_side corners) cell ≡ has_corner_in corners cell
  in-again cell = λ k. not-twice (corners (near_corner cell.axis cell.x cell.y)) k
      || not-twice (corners (far_corner cell.x cell.y)) k

  cut-again : (cell : Cell) → is_cut_cell (other_side corners) cell ≡ is_cut_cell corners cell
  cut-again cell = ap (λ (b : Bool). has_corner_out corners cell && b) (in-again cell)
      ∙ and-turned (has_corner_out corners cell) (has_corner_in corners cell)

  in-cells : ◌≡◌ {A = Cells} (has_corner_out (other_side corners)) (has_corner_in corners)
  in-cells = λ k c. in-again c k

  cut-cells : ◌≡◌ {A = Cells} (is_cut_cell (other_side corners)) (is_cut_cell corners)
  cut-cells = λ k c. cut-again c k

  module _ (placed : PlacedNetlist) where
    abbrev lies : Cells → Terminal → Bool
    lies cells at = lies_in placed.arch placed.placement.grid cells at

    abbrev inside : Terminal → Bool
    inside at = lies (has_corner_in corners) at

    abbrev outside : Terminal → Bool
    outside at = lies (has_corner_out corners) at

    across-again : (a b : Terminal)
        → are_across placed (other_side corners) a b ≡ are_across placed corners a b
    across-again a b =
        ap (λ (f : Cells). (lies f a || lies f b)
        || (outside a && lies (has_corner_out (other_side corners)) b
        || lies (has_corner_out (other_side corners)) a && outside b)) cut-cells
        ∙ ap (λ (f : Cells). (lies (is_cut_cell corners) a || lies (is_cut_cell corners) b)
        || (outside a && lies f b || lies f a && outside b)) in-cells
        ∙ ap (λ (t : Bool). (lies (is_cut_cell corners) a || lies (is_cut_cell corners) b) || t)
        (or-turned (outside a && inside b) (inside a && outside b))

    across-tests : ◌≡◌ {A = Terminal → Terminal → Bool} (are_across placed (other_side corners))
        (are_across placed corners)
    across-tests = λ k a b. across-again a b k

    pub two-sides : HasTwoSides placed corners
    two-sides = record {
      nets = ap (λ (f : Terminal → Terminal → Bool). filter (λ number. option_map_or
          (λ (net : Net). not net.global && option_map_or
          (λ driver. list_any (f driver) (sinks_in placed net)) (driver_in placed net) false)
          (slice_get placed.netlist.nets number) false)
          (range_with_len 0 (length placed.netlist.nets))) across-tests;
      cells = ap (λ (f : Cells). filter f (all_cells placed.placement.grid)) cut-cells;
    }

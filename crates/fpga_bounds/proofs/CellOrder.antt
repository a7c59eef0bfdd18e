-- The order of cells ties equal cells alone.
use Rattle.std.proofs.Common.{◌≡◌, ℕ, refl, sym, ◌∙◌}
use Rattle.std.specs.Prelude.{◌&&◌}
use Rattle.std.specs.Cmp.{tied_then, unsigned_ties}
use Rattle.std.specs.Ordering.{is_eq, nat_cmp}
use Rattle.fpga_types.specs.Fabric.{same_cell}
use Rattle.fpga_types.specs.declared.grid.Axis.{Axis}
use Rattle.fpga_types.specs.declared.grid.Axis.TheVariants.{X, Y}
use Rattle.fpga_types.specs.declared.grid.Cell.{Cell}
use Rattle.fpga_types.specs.contracts.grid.CellOrd.TheImpl.{cmp-value}

abbrev at : Axis → ℕ → ℕ → Cell
at axis x y = record { axis = axis; x = x; y = y }

on_axes : (c d : Axis) (x y u v : ℕ) → is_eq (cmp-value.it (at c x y) (at d u v))
    ≡ same_cell (at c x y) (at d u v)
on_axes X X x y u v =
    sym (tied_then (nat_cmp x u) (nat_cmp y v))
    ∙ (λ i. sym (unsigned_ties x u) i && sym (unsigned_ties y v) i)
on_axes Y Y x y u v =
    sym (tied_then (nat_cmp x u) (nat_cmp y v))
    ∙ (λ i. sym (unsigned_ties x u) i && sym (unsigned_ties y v) i)
on_axes X Y x y u v = refl
on_axes Y X x y u v = refl

pub cell_order : (a b : Cell) → is_eq (cmp-value.it a b) ≡ same_cell a b
cell_order a b = on_axes a.axis b.axis a.x a.y b.x b.y

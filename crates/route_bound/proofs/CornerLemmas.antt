-- Cells that a switch block can join share a corner; so where all corners of the one are in a set,
-- one of the other is.
use Rattle.std.proofs.Common.{◌≡◌, ◌+◌, ◌-◌, ◌⊎◌, Bool, true, false, refl, sym, ap, ◌∙◌, subst, inl, inr, arith}
use Rattle.std.specs.Prelude.{◌||◌, not}
use Rattle.std.proofs.lemmas.Bool.{false≢true}
use Rattle.fpga_types.specs.Fabric.{Meets, cell_on}
use Rattle.fpga_types.specs.Size.{Size}
use Rattle.fpga_types.specs.declared.grid.Cell.{Cell}
use Rattle.fpga_types.specs.declared.grid.Side.{Side}
use Rattle.fpga_types.specs.declared.grid.Side.TheVariants.{Left, Right, Bottom, Top}
use Rattle.fpga_types.specs.declared.grid.SwitchAt.{SwitchAt}
use Rattle.route_bound.specs.Corners.{Corners, far_corner, has_corner_in, has_corner_out, near_corner}

-- the corners of a cell
abbrev near : Cell → SwitchAt
near cell = near_corner cell.axis cell.x cell.y

abbrev far : Cell → SwitchAt
far cell = far_corner cell.x cell.y

-- a switch block is a corner of each cell on a side of it
pub is-corner : (side : Side) (at : SwitchAt)
    → (near (cell_on side at) ≡ at) ⊎ (far (cell_on side at) ≡ at)
is-corner Left at = inr refl
is-corner Right at =
    inl (let e : at.i + 1 - 1 ≡ at.i = omega arith in λ k. record { i = e k; j = at.j })
is-corner Bottom at = inr refl
is-corner Top at =
    inl (let e : at.j + 1 - 1 ≡ at.j = omega arith in λ k. record { i = at.i; j = e k })

or-false : (b c : Bool) → (b || c) ≡ false → (b ≡ false) × (c ≡ false)
or-false true c h = absurd (false≢true (sym h))
or-false false c h = (refl, h)

first-true : (b c : Bool) → b ≡ true → (b || c) ≡ true
first-true b c e = rw e refl

second-true : (b c : Bool) → c ≡ true → (b || c) ≡ true
second-true true c e = refl
second-true false c e = e

not-false : (b : Bool) → not b ≡ false → b ≡ true
not-false true h = refl
not-false false h = absurd (false≢true (sym h))

module _ (corners : Corners) (cell : Cell) (at : SwitchAt) (h : (near cell ≡ at) ⊎ (far cell ≡ at)) where
  -- a corner of a cell with none outside is inside, and of a cell with none inside it is outside
  all-in : has_corner_out corners cell ≡ false → corners at ≡ true
  all-in w = let both = or-false (not (corners (near cell))) (not (corners (far cell))) w in elim h [
    | inl e ↦ ap corners (sym e) ∙ not-false (corners (near cell)) both.0
    | inr e ↦ ap corners (sym e) ∙ not-false (corners (far cell)) both.1
  ]

  all-out : has_corner_in corners cell ≡ false → corners at ≡ false
  all-out w = let both = or-false (corners (near cell)) (corners (far cell)) w in elim h [
    | inl e ↦ ap corners (sym e) ∙ both.0
    | inr e ↦ ap corners (sym e) ∙ both.1
  ]

  one-in : corners at ≡ true → has_corner_in corners cell ≡ true
  one-in w = elim h [
    | inl e ↦ first-true (corners (near cell)) (corners (far cell)) (ap corners e ∙ w)
    | inr e ↦ second-true (corners (near cell)) (corners (far cell)) (ap corners e ∙ w)
  ]

  one-out : corners at ≡ false → has_corner_out corners cell ≡ true
  one-out w = elim h [
    | inl e ↦
        first-true (not (corners (near cell))) (not (corners (far cell))) (ap (λ c. not (corners c)) e ∙ ap not w)
    | inr e ↦
        second-true (not (corners (near cell))) (not (corners (far cell)))
        (ap (λ c. not (corners c)) e ∙ ap not w)
  ]

module _ (corners : Corners) (grid : Size) (a b : Cell) (m : Meets grid a b) where
  corner-a : (near a ≡ m.0.at) ⊎ (far a ≡ m.0.at)
  corner-a = subst (λ (c : Cell). (near c ≡ m.0.at) ⊎ (far c ≡ m.0.at)) (sym m.1.first.1)
      (is-corner m.0.from m.0.at)

  corner-b : (near b ≡ m.0.at) ⊎ (far b ≡ m.0.at)
  corner-b = subst (λ (c : Cell). (near c ≡ m.0.at) ⊎ (far c ≡ m.0.at)) (sym m.1.second.1)
      (is-corner m.0.to m.0.at)

  -- of two cells that meet, where all corners of the one are inside, one of the other is; and the
  -- same outside
  pub stays-in : has_corner_out corners a ≡ false → has_corner_in corners b ≡ true
  stays-in h = one-in corners b m.0.at corner-b (all-in corners a m.0.at corner-a h)

  pub stays-out : has_corner_in corners a ≡ false → has_corner_out corners b ≡ true
  stays-out h = one-out corners b m.0.at corner-b (all-out corners a m.0.at corner-a h)

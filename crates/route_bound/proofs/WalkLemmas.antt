-- A walk from one side of a cut to the other has a cell of the cut, and the wires of a way are on a
-- walk of cells.
use Rattle.std.proofs.Common.{◌≡◌, Bool, true, false, List, [], ◌∷◌, refl, inl, inr}
use Rattle.std.specs.Prelude.{map}
use Rattle.list_laws.proofs.Members.{In}
use Rattle.fpga_types.specs.Fabric.{Meets}
use Rattle.fpga_types.specs.Placed.{AreInTurn, last_wire}
use Rattle.fpga_types.specs.Size.{Size}
use Rattle.fpga_types.specs.Tracks.{AreJoined, TrackMap}
use Rattle.fpga_types.specs.declared.grid.Cell.{Cell}
use Rattle.fpga_types.specs.declared.grid.Wire.{Wire}
use Rattle.route_bound.specs.Corners.{Corners, has_corner_in, has_corner_out, is_cut_cell}
use Rattle.route_bound.specs.Lying.{Cells}
use Rattle.route_bound.specs.Walks.{IsWalk, last_cell}
use Rattle.route_bound.proofs.CornerLemmas.{stays-in, stays-out}

-- where the first cell passes one test and the last another, and behind a cell that fails the other
-- the next passes the one, some cell passes both
module _ (grid : Size) (p q : Cells)
    (stays : (a b : Cell) → Meets grid a b → q a ≡ false → p b ≡ true) where
  between : (a : Cell) (more : List Cell) → IsWalk grid a more → p a ≡ true
      → q (last_cell a more) ≡ true
      → (c : Cell) × In (a ∷ more) c × (p c ≡ true) × (q c ≡ true)
  between a [] walk first last = (a, inl refl, first, last)
  between a (b ∷ more) walk first last =
      go (q a) refl (λ e. between b more walk.1 (stays a b walk.0 e) last)
    where
      go : (v : Bool) → q a ≡ v
          → (q a ≡ false → (c : Cell) × In (b ∷ more) c × (p c ≡ true) × (q c ≡ true))
          → (c : Cell) × In (a ∷ b ∷ more) c × (p c ≡ true) × (q c ≡ true)
      go true e later = (a, inl refl, first, e)
      go false e later = let r = later e in (r.0, inr r.1, r.2, r.3)

pub last-there : (a : Cell) (more : List Cell) → In (a ∷ more) (last_cell a more)
last-there a [] = inl refl
last-there a (b ∷ more) = inr (last-there b more)

module _ (corners : Corners) (grid : Size) (a : Cell) (more : List Cell)
    (walk : IsWalk grid a more) where
  is-cut : (cell : Cell) → has_corner_in corners cell ≡ true → has_corner_out corners cell ≡ true
      → is_cut_cell corners cell ≡ true
  is-cut cell i o = rw (i, o) refl

  pub walk-out : has_corner_in corners a ≡ true
      → has_corner_out corners (last_cell a more) ≡ true
      → (c : Cell) × In (a ∷ more) c × (is_cut_cell corners c ≡ true)
  walk-out first last =
      let r = between grid (has_corner_in corners) (has_corner_out corners)
      (λ b c m e. stays-in corners grid b c m e) a more walk first last in
      (r.0, r.1, is-cut r.0 r.2 r.3)

  pub walk-in : has_corner_out corners a ≡ true
      → has_corner_in corners (last_cell a more) ≡ true
      → (c : Cell) × In (a ∷ more) c × (is_cut_cell corners c ≡ true)
  walk-in first last =
      let r = between grid (has_corner_out corners) (has_corner_in corners)
      (λ b c m e. stays-out corners grid b c m e) a more walk first last in
      (r.0, r.1, is-cut r.0 r.3 r.2)

-- the cells of some wires
abbrev pub cells_of : List Wire → List Cell
cells_of wires = map (λ (w : Wire). w.cell) wires

pub turn-walk : (table : TrackMap) (grid : Size) (u : Wire) (vs : List Wire)
    → AreInTurn (AreJoined table grid) u vs → IsWalk grid u.cell (cells_of vs)
turn-walk table grid u [] turn = turn
turn-walk table grid u (v ∷ vs) turn =
    ((turn.0.0, turn.0.1), turn-walk table grid v vs turn.1)

pub last-cells : (u : Wire) (vs : List Wire)
    → last_cell u.cell (cells_of vs) ≡ (last_wire u vs).cell
last-cells u [] = refl
last-cells u (v ∷ vs) = last-cells v vs

-- One cell that is near, and that a net uses it.
use Rattle.std.proofs.Common.{◌≡◌, ℕ, Bool, true, false, cond, Some, List, [], ◌∷◌, ◌++◌, refl, sym, ap, ◌∙◌}
use Rattle.std.specs.Prelude.{filter, if◌then◌else◌, map, slice_get}
use Rattle.std.proofs.lemmas.List.{append-nil}
use Rattle.fpga_types.specs.declared.grid.Cell.{Cell}
use Rattle.route_bound.specs.Lying.{Cells, pins_at}
use Rattle.cell_clauses.specs.Clauses.{is_cell_in, is_reached, is_within, leaves_clauses, uses_some}
use Rattle.cell_clauses.specs.declared.window.WindowNet.{WindowNet}
use Rattle.fpga_types.specs.Touching.{touches}
use Rattle.fpga_types.specs.declared.grid.PinAt.{PinAt}
use Rattle.sat_clause.specs.Literal.{Clause}
use Rattle.std.specs.List.{list_any}
use Rattle.cell_clauses.specs.Frames.{Frame}
use Rattle.cell_clauses.specs.Places.{has, use_place}
use Rattle.sat_clause.specs.declared.literal.Lit.{Lit}

one-mapped : {B : Type 0} (g : ℕ → B) (c : ℕ) (b : Bool)
    → map g (cond b (c ∷ []) []) ≡ (if b then g c ∷ [] else [])
one-mapped g c true = refl
one-mapped g c false = refl

pub use-one : (f : Frame) (set : Cells) (k c : ℕ) (cell : Cell) → slice_get f.cells c ≡ Some cell
    → map (λ i. has (use_place f k i)) (filter (is_cell_in f set) (c ∷ []))
    ≡ (if set cell then has (use_place f k c) ∷ [] else [])
use-one f set k c cell at = rw at (one-mapped (λ i. has (use_place f k i)) c (set cell))

-- with a cell and whether it is one of these
module _ (f : Frame) (set : Cells) (k c : ℕ) (cell : Cell) (at : slice_get f.cells c ≡ Some cell)
  where
    abbrev made : List Lit
    made = map (λ i. has (use_place f k i)) (filter (is_cell_in f set) (c ∷ []))

    pub use-none : (lits : List Lit) → set cell ≡ false → lits ≡ lits ++ made
    use-none lits off =
        sym (append-nil lits)
        ∙ ap (λ (t : List Lit). lits ++ t) (sym (use-one f set k c cell at ∙ (rw off refl)))

    pub use-some : set cell ≡ true → made ≡ has (use_place f k c) ∷ []
    use-some on = use-one f set k c cell at ∙ (rw on refl)

-- that a net leaves its driver, by the pins of that
pub leaves-made : (f : Frame) (k : ℕ) (net : WindowNet) (pins : List PinAt) (lits row : Clause)
    → is_within f net.driver ≡ true → row ≡ lits
    → lits ≡ uses_some f k (λ cell. list_any (λ pin. touches f.arch f.grid pin cell) pins)
    → pins ≡ pins_at f.arch net.driver → (row ∷ []) ≡ leaves_clauses f (k, net)
leaves-made f k net pins lits row within e g h =
    ap (λ (l : Clause). l ∷ []) (e ∙ g ∙ ap (λ (ps : List PinAt).
    uses_some f k (λ cell. list_any (λ pin. touches f.arch f.grid pin cell) ps)) h)
    ∙ sym (ap (λ (b : Bool). if b then uses_some f k (is_reached f net.driver) ∷ [] else []) within)

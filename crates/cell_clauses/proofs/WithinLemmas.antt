-- Literals of a window's clauses are of its variables.
use Rattle.std.proofs.Common.{ℕ, ◌<◌, ◌≤◌, Bool, false, List, ◌∷◌, All, length, subst, arith}
use Rattle.std.specs.Prelude.{filter, map}
use Rattle.list_laws.proofs.Members.{In-all, all-from_In, from_In-filter, from_In-map}
use Rattle.fpga_types.specs.declared.grid.PinAt.{PinAt}
use Rattle.route_bound.specs.Lying.{Cells}
use Rattle.route_encode.proofs.Models.{of-below}
use Rattle.sat_clause.specs.Literal.{IsWithin}
use Rattle.cell_clauses.specs.Clauses.{below, is_cell_in, uses_some}
use Rattle.cell_clauses.specs.Frames.{Frame}
use Rattle.cell_clauses.specs.Places.{entry_place, has, lacks, pin_count, pin_number, use_place, variable_count}
use Rattle.cell_clauses.proofs.RowLemmas.{all-more}
use Rattle.cell_clauses.proofs.ValueLemmas.{entry-within, use-within}

pub has-within : (p v : ℕ) → p < v → IsWithin v (has p)
has-within p v h = (omega arith, omega arith)

pub lacks-within : (p v : ℕ) → p < v → IsWithin v (lacks p)
lacks-within p v h = (omega arith, omega arith)

never : ℕ → ℕ → Bool
never i c = false

module _ (f : Frame) (v : ℕ) (vars : variable_count f ≤ v) where
  pub use-low : (k c : ℕ) → k < length f.nets → c < length f.cells → use_place f k c < v
  use-low k c net cell = let h = use-within f never never k c net cell in omega (arith, h, vars)

  pub entry-low : (a number : ℕ) → a < length f.arrivals → number < pin_count f
      → entry_place f a number < v
  entry-low a number there low =
      let h = entry-within f never never a number there low in omega (arith, h, vars)

  pub uses-within : (k : ℕ) (set : Cells) → k < length f.nets → All (IsWithin v) (uses_some f k set)
  uses-within k set net =
      all-from_In (IsWithin v) (uses_some f k set) (λ l i.
      let of = from_In-map (λ c. has (use_place f k c))
      (filter (is_cell_in f set) (below (length f.cells))) l i in
      let low = of-below (length f.cells) of.0
      (from_In-filter (is_cell_in f set) (below (length f.cells)) of.0 of.1).0 in
      subst (IsWithin v) of.2 (has-within (use_place f k of.0) v (use-low k of.0 net low)))

  -- with a literal before
  pub lacks-use-within : (k c : ℕ) (set : Cells) → k < length f.nets → c < length f.cells
      → All (IsWithin v) (lacks (use_place f k c) ∷ uses_some f k set)
  lacks-use-within k c set net cell =
      all-more (IsWithin v) (lacks (use_place f k c)) (uses_some f k set)
      (lacks-within (use_place f k c) v (use-low k c net cell)) (uses-within k set net)

  pub lacks-entry-within : (a number k : ℕ) (set : Cells) → a < length f.arrivals
      → number < pin_count f → k < length f.nets
      → All (IsWithin v) (lacks (entry_place f a number) ∷ uses_some f k set)
  lacks-entry-within a number k set there low net =
      all-more (IsWithin v) (lacks (entry_place f a number)) (uses_some f k set)
      (lacks-within (entry_place f a number) v (entry-low a number there low))
      (uses-within k set net)

  pub entries-within : (a : ℕ) (pins : List PinAt) → a < length f.arrivals
      → All (λ pin. pin_number pin < pin_count f) pins
      → All (IsWithin v) (map (λ pin. has (entry_place f a (pin_number pin))) pins)
  entries-within a pins there low =
      all-from_In (IsWithin v) (map (λ pin. has (entry_place f a (pin_number pin))) pins) (λ l i.
      let of = from_In-map (λ pin. has (entry_place f a (pin_number pin))) pins l i in
      subst (IsWithin v) of.2 (has-within (entry_place f a (pin_number of.0)) v
      (entry-low a (pin_number of.0) there
      (In-all (λ pin. pin_number pin < pin_count f) pins of.0 low of.1))))

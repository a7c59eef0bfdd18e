-- Whether a cell has more slots than tracks, by counts of the slots so far.
use Rattle.std.proofs.Common.{◌≡◌, ℕ, ◌+◌, ◌-◌, ◌<◌, ◌≤◌, Bool, List, [], ◌∷◌, ◌++◌, length, length-append, get_or, refl, ap, subst, ◌∙◌, inl, inr, arith, All}
use Rattle.std.specs.Prelude.{◌==◌, IsTrue, filter}
use Rattle.std.specs.List.{range_with_len}
use Rattle.std.proofs.lemmas.Bool.{cases_lt}
use Rattle.std.proofs.lemmas.Bool.Decides.{Decides-eqb}
use Rattle.std.proofs.lemmas.List.Elements.{filter-append}
use Rattle.list_laws.proofs.Members.{In, from_In-filter, from_In-range}
use Rattle.fpga_types.specs.CellNumbers.{cell_count, number_of_cell}
use Rattle.fpga_types.specs.Fabric.{is_cell}
use Rattle.fpga_types.specs.Size.{Size}
use Rattle.fpga_types.specs.Slots.{NO_SLOT, slot_at}
use Rattle.fpga_types.specs.declared.problem.Slot.{Slot}
use Rattle.fpga_types.proofs.CellLemmas.{number-within}
use Rattle.route_encode.specs.Encoding.{below}
use Rattle.route_encode.proofs.RivalLemmas.{range-append}
use Rattle.problem_facts.specs.CellCounts.{AreCounted}
use Rattle.problem_facts.specs.Fullest.{slots_in}
use Rattle.route_count.specs.Crowded.{AreSpread}

-- of more numbers no fewer pass
pub passing-rises : (p : ℕ → Bool) (a b : ℕ) → a ≤ b
    → length (filter p (below a)) ≤ length (filter p (below b))
passing-rises p a b low =
    let e : b ≡ a + (b - a) = omega (arith, low) in
    let parts : filter p (below b)
    ≡ filter p (range_with_len 0 a) ++ filter p (range_with_len (0 + a) (b - a)) =
    ap (λ (n : ℕ). filter p (below n)) e ∙ ap (filter p) (range-append 0 a (b - a))
    ∙ filter-append p (range_with_len 0 a) (range_with_len (0 + a) (b - a)) in
    let sizes = ap length parts in
    let both = length-append (filter p (range_with_len 0 a))
    (filter p (range_with_len (0 + a) (b - a))) in
    omega (arith, sizes, both)

module _ (grid : Size) (all : List Slot)
    (there : All (λ slot. IsTrue (is_cell grid slot.cell)) all) where
  -- a number past those of the cells has no slots
  past-cells : (number : ℕ) → cell_count grid ≤ number → (row : List ℕ)
      → row ≡ slots_in grid all number → length row ≤ 0
  past-cells number past [] e = omega arith
  past-cells number past (s ∷ row) e =
      let first : In (slots_in grid all number) s =
      subst (λ (xs : List ℕ). In xs s) e (inl refl) in
      let kept = from_In-filter (λ n. number_of_cell grid (slot_at all n).cell == number)
      (below (length all)) s first in
      let low = from_In-range 0 (length all) s kept.0 in
      let cell = there s NO_SLOT (omega (arith, low.1)) in
      let within : number_of_cell grid (slot_at all s).cell < cell_count grid =
      number-within grid (slot_at all s).cell.axis (slot_at all s).cell.x (slot_at all s).cell.y
      cell in
      let is : number_of_cell grid (slot_at all s).cell ≡ number =
      (Decides-eqb (number_of_cell grid (slot_at all s).cell) number).0 kept.1 in
      absurd (omega (arith, within, is, past))

  pub are-spread : (width : ℕ) (counts : List ℕ) → length counts ≡ cell_count grid
      → AreCounted grid all (length all) counts
      → ((k : ℕ) → k < length counts → get_or counts k 0 ≤ width) → AreSpread width grid all
  are-spread width counts size counted few number = elim (cases_lt number (length counts)) [
    | inl inside ↦ (let is = counted number inside in omega (arith, is, few number inside))
    | inr outside ↦
        (let none = past-cells number (omega (arith, outside, size)) (slots_in grid all number)
        refl in
        omega (arith, none))
  ]

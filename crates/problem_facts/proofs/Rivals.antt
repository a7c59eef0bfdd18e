-- The slots of one cell are of different nets.
use Rattle.std.proofs.Common.{◌≡◌, ◌≢◌, ℕ, zero, suc, ◌+◌, ◌<◌, Bool, true, false, List, length, get_or, refl, sym, subst, ◌∙◌, arith, AllPairs}
use Rattle.std.specs.Prelude.{◌==◌, ◌&&◌}
use Rattle.std.specs.List.{range_with_len}
use Rattle.std.proofs.lemmas.Bool.{false≢true}
use Rattle.std.proofs.lemmas.Bool.Decides.{Decides-eqb}
use Rattle.std.proofs.lemmas.List.Elements.{filter_passes}
use Rattle.std.proofs.lemmas.List.Kept.{AllPairs-filter}
use Rattle.list_laws.proofs.Members.{In-get, from_In-filter, from_In-range}
use Rattle.fpga_types.specs.CellNumbers.{number_of_cell}
use Rattle.fpga_types.specs.Fabric.{same_cell}
use Rattle.fpga_types.specs.Given.{IsGiven}
use Rattle.fpga_types.specs.Problem.{RoutingProblem}
use Rattle.fpga_types.specs.Size.{Size}
use Rattle.fpga_types.specs.Slots.{NO_SLOT, slot_at, slots}
use Rattle.fpga_types.specs.declared.grid.Cell.{Cell}
use Rattle.fpga_types.specs.declared.problem.Slot.{Slot}
use Rattle.fpga_types.proofs.CellLemmas.{number-alone}
use Rattle.fpga_types.proofs.MeetingLemmas.{same_cell-itself}
use Rattle.fpga_bounds.proofs.PairLemmas.{slots-distinct}
use Rattle.route_encode.specs.Encoding.{below}
use Rattle.problem_facts.specs.Fullest.{slots_in}
use Rattle.problem_facts.proofs.SlotCells.{slot-cell-there}

-- these are slots, and each two of them are of different nets and take one cell
pub record AreRivals (all : List Slot) (row : List ℕ) : Type 0 where
  pub within : (i : ℕ) → i < length row → get_or row i 0 < length all
  pub nets : (i j : ℕ) → i < j → j < length row
      → (slot_at all (get_or row i 0)).net ≢ (slot_at all (get_or row j 0)).net
  pub cells : (i j : ℕ) → i < j → j < length row
      → (slot_at all (get_or row i 0)).cell ≡ (slot_at all (get_or row j 0)).cell

-- the numbers of a range rise
range-rises : (a n : ℕ) → AllPairs (λ x y. x < y) (range_with_len a n)
range-rises a zero i j d low high = absurd (omega (arith, high))
range-rises a (suc n) i zero d low high = absurd (omega (arith, low))
range-rises a (suc n) zero (suc j) d low high =
    let in_later = from_In-range (a + 1) n (get_or (range_with_len (a + 1) n) j d)
    (In-get (range_with_len (a + 1) n) j d (omega (arith, high))) in
    omega (arith, in_later.0)
range-rises a (suc n) (suc i) (suc j) d low high =
    range-rises (a + 1) n i j d (omega (arith, low)) (omega (arith, high))

both-ways : (nets cells : Bool) → (nets && cells) ≡ false → cells ≡ true → nets ≡ false
both-ways true cells h g = absurd (false≢true (sym h ∙ g))
both-ways false cells h g = refl

module _ (p : RoutingProblem) (given : IsGiven p) where
  abbrev all : List Slot
  all = slots p.route

  abbrev grid : Size
  grid = p.route.grid

  module _ (number : ℕ) where
    abbrev row : List ℕ
    row = slots_in grid all number

    abbrev here : ℕ → Bool
    here s = number_of_cell grid (slot_at all s).cell == number

    low : (i : ℕ) → i < length row → get_or row i 0 < length all
    low i inside =
        let kept = from_In-filter here (below (length all)) (get_or row i 0)
        (In-get row i 0 inside) in
        let range = from_In-range 0 (length all) (get_or row i 0) kept.0 in
        omega (arith, range.1)

    number-is : (i : ℕ) → i < length row
        → number_of_cell grid (slot_at all (get_or row i 0)).cell ≡ number
    number-is i inside =
        (Decides-eqb (number_of_cell grid (slot_at all (get_or row i 0)).cell) number).0
        (filter_passes here (below (length all)) i 0 inside)

    rises : (i j : ℕ) → i < j → j < length row → get_or row i 0 < get_or row j 0
    rises i j before inside =
        AllPairs-filter (λ x y. x < y) here (below (length all)) (range-rises 0 (length all))
        i j 0 before inside

    cell-is : (i j : ℕ) → i < j → j < length row
        → (slot_at all (get_or row i 0)).cell ≡ (slot_at all (get_or row j 0)).cell
    cell-is i j before inside =
        let first : i < length row = omega (arith, before, inside) in
        number-alone grid (slot_at all (get_or row j 0)).cell
        (slot-cell-there p.route given.route (get_or row j 0) (low j inside))
        (slot_at all (get_or row i 0)).cell
        (slot-cell-there p.route given.route (get_or row i 0) (low i first))
        (number-is i first ∙ sym (number-is j inside))

    -- the slots of one cell are rivals
    pub rivals-in : AreRivals all row
    rivals-in = record {
      within = low;
      nets = λ i j before inside.
          let x : ℕ = get_or row i 0 in
          let y : ℕ = get_or row j 0 in
          let apart = slots-distinct p.route x y NO_SLOT (rises i j before inside)
          (low j inside) in
          let shared : same_cell (slot_at all x).cell (slot_at all y).cell ≡ true =
          subst (λ (c : Cell). same_cell (slot_at all x).cell c ≡ true) (cell-is i j before inside)
          (same_cell-itself (slot_at all x).cell) in
          let differ = both-ways ((slot_at all x).net == (slot_at all y).net)
          (same_cell (slot_at all x).cell (slot_at all y).cell) apart shared in
          λ e. false≢true (sym differ
          ∙ (Decides-eqb (slot_at all x).net (slot_at all y).net).1 e);
      cells = cell-is;
    }

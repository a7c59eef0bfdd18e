-- A slot is sought along the slots of its cell.
use Rattle.std.proofs.Common.{◌≡◌, ◌≢◌, ℕ, ◌+◌, ◌-◌, ◌<◌, ◌≤◌, Bool, true, false, cond, Option, Some, None, List, length, get_or, set, refl, sym, ap, subst, ◌∙◌, inl, inr, arith, length-set}
use Rattle.std.specs.Prelude.{find, slice_set}
use Rattle.std.specs.List.{range_with_len}
use Rattle.std.proofs.lemmas.Bool.{cases_lt, false≢true}
use Rattle.std.proofs.lemmas.List.{get_or-set_other, get_or-set_same}
use Rattle.list_laws.proofs.Members.{In, In-filter, In-range}
use Rattle.list_laws.proofs.Searches.{filter-none}
use Rattle.fpga_bounds.specs.Pairs.{AreDistinct}
use Rattle.fpga_types.specs.CellNumbers.{IsAlone, cell_count, number_of_cell}
use Rattle.fpga_types.specs.Fabric.{is_cell, same_cell}
use Rattle.fpga_types.specs.Size.{Size}
use Rattle.fpga_types.specs.Slots.{slot_at}
use Rattle.fpga_types.specs.declared.grid.Cell.{Cell}
use Rattle.fpga_types.specs.declared.problem.Slot.{Slot}
use Rattle.fpga_types.proofs.MeetingLemmas.{same_cell-is, same_cell-itself}
use Rattle.route_encode.specs.Rivals.{next_rival, slots_from}
use Rattle.route_encode.proofs.RivalLemmas.{IsFirst, found-first, slots_from-cons}
use Rattle.route_reach.specs.FirstSlots.{AreFirst, AreOnGrid, first_from}
use Rattle.route_reach.specs.Near.{found_number}
use Rattle.route_reach.proofs.NearSlots.{found-is, is-found}

passes-there : (all : List Slot) (slot : Slot) (j : ℕ) → slot_at all j ≡ slot
    → same_cell (slot_at all j).cell slot.cell ≡ true
passes-there all slot j same =
    ap (λ (q : Slot). same_cell q.cell slot.cell) same ∙ same_cell-itself slot.cell

-- none of the slots before a place is the one that is sought, and this is the first from there on
-- that takes its cell
pub record IsSought (all : List Slot) (slot : Slot) (next : Option ℕ) : Type 0 where
  pub at : ℕ
  pub next_is : next ≡ first_from all at slot.cell
  pub none : (j : ℕ) → j < at → slot_at all j ≢ slot

-- the next slot of the cell
pub record IsNext (all : List Slot) (slot : Slot) (b : ℕ) : Type 0 where
  pub within : b < length all
  pub cell : (slot_at all b).cell ≡ slot.cell
  pub none : (j : ℕ) → j < b → slot_at all j ≢ slot

pub sought-next : (all : List Slot) (slot : Slot) (b : ℕ) → IsSought all slot (Some b)
    → IsNext all slot b
sought-next all slot b h =
    let test : ℕ → Bool = λ k. same_cell (slot_at all k).cell slot.cell in
    let first = found-first test h.at (length all - h.at) b (sym h.next_is) in
    record {
      within = omega (arith, first.low, first.high);
      cell = same_cell-is (slot_at all b).cell slot.cell first.passes;
      none = λ j low. elim (cases_lt j h.at) [
        | inl before ↦ h.none j before
        | inr behind ↦ between j behind low first
      ];
    }
  where
    between : (j : ℕ) → h.at ≤ j → j < b
        → IsFirst (λ k. same_cell (slot_at all k).cell slot.cell) h.at (length all - h.at) b
        → slot_at all j ≢ slot
    between j behind low first same =
        let test : ℕ → Bool = λ k. same_cell (slot_at all k).cell slot.cell in
        subst (λ (ks : List ℕ). In ks j) first.none
        (In-filter test (range_with_len h.at (b - h.at)) j
        (In-range h.at (b - h.at) j behind (omega (arith, low, behind)))
        (passes-there all slot j same))

-- and goes on from a slot of another net
pub sought-on : (all : List Slot) (slot : Slot) (b : ℕ) → IsSought all slot (Some b)
    → (slot_at all b).net ≢ slot.net → IsSought all slot (next_rival all b)
sought-on all slot b h other =
    let next = sought-next all slot b h in
    record {
      at = b + 1;
      next_is = ap (λ (c : Cell). find (λ k. same_cell (slot_at all k).cell c)
          (slots_from all (b + 1))) next.cell;
      none = λ j low. elim (cases_lt j b) [
        | inl before ↦ next.none j before
        | inr behind ↦ here j behind low
      ];
    }
  where
    here : (j : ℕ) → b ≤ j → j < b + 1 → slot_at all j ≢ slot
    here j behind low same =
        let at : b ≡ j = omega (arith, behind, low) in
        other (ap (λ (q : Slot). q.net) (ap (slot_at all) at ∙ same))

-- a slot of the same net is the one that is sought
pub sought-found : (all : List Slot) → AreDistinct all → (slot : Slot) (b : ℕ)
    → IsSought all slot (Some b) → (slot_at all b).net ≡ slot.net
    → found_number all slot ≡ Some b
sought-found all distinct slot b h same =
    let next = sought-next all slot b h in
    is-found all distinct slot b next.within
    (λ i. record { net = same i; cell = next.cell i })

-- where no slot of the cell is left, it is none of them
pub sought-none : (all : List Slot) (slot : Slot) → IsSought all slot None
    → found_number all slot ≡ None
sought-none all slot h = go (found_number all slot) refl
  where
    go : (o : Option ℕ) → found_number all slot ≡ o → o ≡ None
    go None e = refl
    go (Some k) e =
        let is = found-is all slot k e in
        absurd (elim (cases_lt k h.at) [
          | inl before ↦ h.none k before is.1
          | inr behind ↦ subst (λ (ks : List ℕ). In ks k)
              (filter-none (λ b. same_cell (slot_at all b).cell slot.cell) (slots_from all h.at)
              (sym h.next_is))
              (In-filter (λ b. same_cell (slot_at all b).cell slot.cell) (slots_from all h.at) k
              (In-range h.at (length all - h.at) k behind (omega (arith, is.0, behind)))
              (passes-there all slot k is.1))
        ])

-- a cell that is none of the array's has no slot
pub off-grid : (grid : Size) (all : List Slot) → AreOnGrid grid all → (slot : Slot)
    → is_cell grid slot.cell ≡ false → found_number all slot ≡ None
off-grid grid all on slot off = go (found_number all slot) refl
  where
    go : (o : Option ℕ) → found_number all slot ≡ o → o ≡ None
    go None e = refl
    go (Some k) e =
        let is = found-is all slot k e in
        absurd (false≢true (sym off ∙ ap (λ (q : Slot). is_cell grid q.cell) (sym is.1)
        ∙ on k is.0))

-- the row with the slot before those so far
pub first-set : (grid : Size) (all : List Slot) (s n : ℕ) (row : List (Option ℕ)) → 0 < s
    → s ≤ length all → AreFirst grid all s row
    → n ≡ number_of_cell grid (slot_at all (s - 1)).cell
    → IsAlone grid (slot_at all (s - 1)).cell n → n < cell_count grid
    → AreFirst grid all (s - 1) (slice_set row n (Some (s - 1)))
first-set grid all s n row some high h is alone within = record {
  each = length-set row n (Some (s - 1)) ∙ h.each;
  first = λ cell on. at cell on;
}
  where
    go : (cell : Cell) → is_cell grid cell ≡ true → (b : Bool)
        → same_cell (slot_at all (s - 1)).cell cell ≡ b
        → get_or (set row n (Some (s - 1))) (number_of_cell grid cell) None
        ≡ cond b (Some (s - 1)) (first_from all s cell)
    go cell on true e =
        let same = same_cell-is (slot_at all (s - 1)).cell cell e in
        let number : number_of_cell grid cell ≡ n = ap (number_of_cell grid) (sym same) ∙ sym is in
        rw number (get_or-set_same row n (Some (s - 1)) None (omega (arith, within, h.each)))
    go cell on false e =
        let other : number_of_cell grid cell ≢ n = λ same. false≢true (sym e
        ∙ ap (λ (c : Cell). same_cell c cell) (sym (alone cell on same))
        ∙ same_cell-itself cell) in
        get_or-set_other row n (number_of_cell grid cell) (Some (s - 1)) None other
        ∙ h.first cell on

    at : (cell : Cell) → is_cell grid cell ≡ true
        → get_or (set row n (Some (s - 1))) (number_of_cell grid cell) None
        ≡ first_from all (s - 1) cell
    at cell on =
        let place : s - 1 + 1 ≡ s = omega (arith, some) in
        go cell on (same_cell (slot_at all (s - 1)).cell cell) refl
        ∙ sym (rw (slots_from-cons all (s - 1) (omega (arith, some, high)), place) refl)

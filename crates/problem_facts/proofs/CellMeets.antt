-- The trees of the slots of one cell meet.
use Rattle.std.proofs.Common.{◌≡◌, ◌≢◌, ℕ, ◌<◌, true, List, length, get_or, refl, sym, ap, ◌∙◌, arith}
use Rattle.std.specs.Prelude.{◌==◌, not}
use Rattle.std.specs.List.{list_any}
use Rattle.std.proofs.lemmas.Bool.Decides.{Decides-eqb}
use Rattle.list_laws.proofs.Members.{In-range, list_any-from_In}
use Rattle.fpga_types.specs.CellNumbers.{number_of_cell}
use Rattle.fpga_types.specs.Given.{IsGiven}
use Rattle.fpga_types.specs.Problem.{RoutingProblem}
use Rattle.fpga_types.specs.Size.{Size}
use Rattle.fpga_types.specs.Slots.{slot_at, slots}
use Rattle.fpga_types.specs.declared.problem.Slot.{Slot}
use Rattle.route_encode.specs.Encoding.{below}
use Rattle.route_encode.proofs.CompeteLemmas.{differs}
use Rattle.problem_facts.specs.Fullest.{slots_in}
use Rattle.problem_facts.specs.Trees.{has_cell, is_meeting_slot, is_tree_in, meet}
use Rattle.problem_facts.proofs.Rivals.{rivals-in}

-- where each slot is of the net of the one that stands for its tree
pub cell-pair : (p : RoutingProblem) → IsGiven p → (roots : List ℕ)
    → ((s : ℕ) → s < length (slots p.route)
    → (slot_at (slots p.route) (get_or roots s 0)).net ≡ (slot_at (slots p.route) s).net)
    → (number i j : ℕ) → i < j → j < length (slots_in p.route.grid (slots p.route) number)
    → meet p.route.grid (slots p.route) roots
    (get_or roots (get_or (slots_in p.route.grid (slots p.route) number) j 0) 0)
    (get_or roots (get_or (slots_in p.route.grid (slots p.route) number) i 0) 0) ≡ true
cell-pair p given roots own number i j before low =
    let all : List Slot = slots p.route in
    let n : ℕ = length all in
    let grid : Size = p.route.grid in
    let row : List ℕ = slots_in grid all number in
    let rivals = rivals-in p given number in
    let first : i < length row = omega (arith, before, low) in
    let s : ℕ = get_or row i 0 in
    let t : ℕ = get_or row j 0 in
    let a : ℕ = get_or roots s 0 in
    let b : ℕ = get_or roots t 0 in
    let in_s = rivals.within i first in
    let in_t = rivals.within j low in
    let number_t : ℕ = number_of_cell grid (slot_at all t).cell in
    let numbers : number_of_cell grid (slot_at all s).cell ≡ number_t =
    ap (number_of_cell grid) (rivals.cells i j before low) in
    let apart : (slot_at all b).net ≢ (slot_at all a).net =
    λ e. rivals.nets i j before low (sym (own s in_s) ∙ sym e ∙ own t in_t) in
    let nets : not ((slot_at all b).net == (slot_at all a).net) ≡ true =
    rw (differs (slot_at all b).net (slot_at all a).net apart) refl in
    let of_s : is_tree_in grid all roots a number_t s ≡ true =
    rw (
      (Decides-eqb (get_or roots s 0) a).1 refl,
      (Decides-eqb (number_of_cell grid (slot_at all s).cell) number_t).1 numbers,
    ) refl in
    let has : has_cell grid all roots a number_t ≡ true =
    list_any-from_In (is_tree_in grid all roots a number_t) (below n) s
    (In-range 0 n s (omega arith) (omega (arith, in_s))) of_s in
    let of_t : is_meeting_slot grid all roots b a t ≡ true =
    rw ((Decides-eqb (get_or roots t 0) b).1 refl, has) refl in
    let met : list_any (is_meeting_slot grid all roots b a) (below n) ≡ true =
    list_any-from_In (is_meeting_slot grid all roots b a) (below n) t
    (In-range 0 n t (omega arith) (omega (arith, in_t))) of_t in
    rw (nets, met) refl

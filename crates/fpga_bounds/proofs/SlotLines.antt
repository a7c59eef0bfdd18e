-- A slot of a route has a line in its net, and what stands at its number is the slot.
use Rattle.std.proofs.Common.{◌≡◌, ℕ, zero, suc, ◌+◌, ◌<◌, Bool, false, true, Option, Some, None, List, [], ◌∷◌, length, get_or, refl, sym, ap, ◌∙◌, arith}
use Rattle.std.specs.Prelude.{filter_map, option_map, slice_get}
use Rattle.std.specs.List.{enumerate_from, list_any, position_or_len}
use Rattle.list_laws.proofs.Members.{In, In-get, In-list_any, from_In-filter_map, from_In-flat_map, list_any-from_In}
use Rattle.list_laws.proofs.Numbered.{from_In-enumerate}
use Rattle.list_laws.proofs.Places.{some_is}
use Rattle.fpga_types.specs.Slots.{NO_SLOT, elem_cell, elem_slot, same_slot, slot_at, slot_number, slots}
use Rattle.fpga_types.specs.declared.grid.Cell.{Cell}
use Rattle.fpga_types.specs.declared.problem.Slot.{Slot}
use Rattle.fpga_types.specs.declared.route.Elem.{Elem}
use Rattle.fpga_types.specs.declared.route.RouteNet.{RouteNet}
use Rattle.fpga_types.specs.declared.route.RouteText.{RouteText}
use Rattle.fpga_bounds.specs.Pairs.{AreDistinct}
use Rattle.fpga_bounds.proofs.SlotTableLemmas.{same_slot-is, same_slot-itself, same_slot-swap}
use Rattle.fpga_bounds.proofs.SlotsOfLemmas.{any-first_seen, channel_slots}

-- the net of the slot of a channel line
pub slot-net : (n : ℕ) (e : Elem) (s : Slot) → elem_slot n e ≡ Some s → s.net ≡ n
slot-net n e s h = go (elem_cell e) h
  where
    go : (o : Option Cell) → option_map {T = Cell} {U =
        Slot} (λ cell. record { net = n; cell = cell }) o ≡ Some s → s.net ≡ n
    go None g = cc
    go (Some c) g = ap (λ (t : Slot). t.net) (sym (some_is g))

-- a slot of a route has a net there, and an element in it
pub record IsThere (route : RouteText) (s : Slot) : Type 0 where
  pub net : RouteNet
  pub elem : Elem
  pub here : slice_get route.nets s.net ≡ Some net
  pub among : In net.elems elem
  pub is : elem_slot s.net elem ≡ Some s

pub slot-line : (route : RouteText) (s : Slot) → list_any (same_slot s) (slots route) ≡ true
    → IsThere route s
slot-line route s h =
    let any =
    In-list_any (same_slot s) (channel_slots route.nets)
    (sym (any-first_seen s (channel_slots route.nets)) ∙ h) in
    let at_net = from_In-flat_map (λ (n : ℕ × RouteNet). filter_map (elem_slot n.0) n.1.elems)
    (enumerate_from 0 route.nets) any.0 any.1 in
    let at_elem = from_In-filter_map (elem_slot at_net.0.0) at_net.0.1.elems any.0 at_net.2 in
    let place = from_In-enumerate 0 route.nets at_net.0 at_net.1 in
    let one : s ≡ any.0 = same_slot-is s any.0 any.2 in
    let is : elem_slot at_net.0.0 at_elem.0 ≡ Some s =
    at_elem.2 ∙ ap (λ (t : Slot). Some t) (sym one) in
    let net : s.net ≡ at_net.0.0 = slot-net at_net.0.0 at_elem.0 s is in
    let number : s.net ≡ place.0 = net ∙ place.1 ∙ (let z : 0 + place.0 ≡ place.0 = omega arith in
    z) in
    record {
      net = at_net.0.1;
      elem = at_elem.0;
      here = ap (slice_get route.nets) number ∙ place.2;
      among = at_elem.1;
      is = ap (λ (n : ℕ). elem_slot n at_elem.0) net ∙ is;
    }

-- the slot at a place is among the slots
pub slot-among : (all : List Slot) (k : ℕ) → k < length all
    → list_any (same_slot (slot_at all k)) all ≡ true
slot-among all k inside =
    list_any-from_In (same_slot (slot_at all k)) all (slot_at all k)
    (In-get all k NO_SLOT inside) (same_slot-itself (slot_at all k))

-- the first place where an element passes
first-place : {T : Type 0} (p : T → Bool) (xs : List T) (k : ℕ) (d : T) → k < length xs
    → p (get_or xs k d) ≡ true → ((j : ℕ) → j < k → p (get_or xs j d) ≡ false)
    → position_or_len p xs ≡ k
first-place p [] k d inside here before = absurd (omega arith)
first-place p (x ∷ xs) zero d inside here before = rw here refl
first-place p (x ∷ xs) (suc k) d inside here before =
    let rest = first-place p xs k d (omega arith) here (λ j low. before (suc j) (omega arith)) in
    rw (before 0 (omega arith), rest) (omega arith)

-- the number of the slot at a place is that place
pub number-there : (all : List Slot) → AreDistinct all → (k : ℕ) → k < length all
    → slot_number all (slot_at all k) ≡ k
number-there all distinct k inside =
    first-place (same_slot (slot_at all k)) all k NO_SLOT inside (same_slot-itself (slot_at all k))
    (λ j low. same_slot-swap (slot_at all k) (slot_at all j) ∙ distinct j k NO_SLOT low inside)

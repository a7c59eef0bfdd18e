-- The wires that a route's channel lines are on once they have tracks: those of their slots.
use Rattle.std.proofs.Common.{◌≡◌, ℕ, ◌<◌, true, false, Option, Some, None, List, length, refl, sym, ap, ◌∙◌}
use Rattle.std.specs.Prelude.{filter_map, map, option_map, slice_get, slice_index}
use Rattle.std.specs.List.{list_any}
use Rattle.std.specs.Option.{option_map_or}
use Rattle.std.proofs.lemmas.Bool.{eq-eqb}
use Rattle.list_laws.proofs.Members.{In-list_any, In-map, from_In-filter_map, list_any-from_In}
use Rattle.list_laws.proofs.Searches.{position-below}
use Rattle.fpga_types.specs.Fit.{same_elem}
use Rattle.fpga_types.specs.Legal.{wire_of}
use Rattle.fpga_types.specs.Problem.{RoutingProblem}
use Rattle.fpga_types.specs.Slots.{elem_cell, elem_slot, same_slot, slot_at, slot_number, slots}
use Rattle.fpga_types.specs.declared.grid.Cell.{Cell}
use Rattle.fpga_types.specs.declared.grid.Wire.{Wire}
use Rattle.fpga_types.specs.declared.problem.Slot.{Slot}
use Rattle.fpga_types.specs.declared.route.Elem.{Elem}
use Rattle.fpga_types.specs.declared.route.RouteNet.{RouteNet}
use Rattle.fpga_types.proofs.MeetingLemmas.{same_cell-itself}
use Rattle.fpga_bounds.proofs.SlotTableLemmas.{same_slot-is}
use Rattle.fpga_bounds.proofs.SlotsOfLemmas.{again-any}
use Rattle.fpga_bounds.proofs.StepFacts.{slot-cell, slot-in, slot-there}
use Rattle.route_verify.specs.Lines.{has_wire, is_on_wire}
use Rattle.route_verify.specs.Wiring.{elem_wire, same_wire, wire_on}
use Rattle.route_verify.proofs.TrackLemmas.{shown, tracked}

-- a wire is itself
pub same_wire-itself : (w : Wire) → same_wire w w ≡ true
same_wire-itself w = rw (same_cell-itself w.cell, eq-eqb w.track w.track refl) refl

module _ (p : RoutingProblem) (tracks : List ℕ) where
  abbrev all : List Slot
  all = slots p.route

  abbrev retracked : ℕ → Elem → Elem
  retracked = tracked all tracks

  -- the wire is that of the line's slot
  pub record IsSlotWire (n : ℕ) (e : Elem) (w : Wire) : Type 0 where
    pub slot : Slot
    pub is : elem_slot n e ≡ Some slot
    pub within : slot_number all slot < length all
    pub there : slot_at all (slot_number all slot) ≡ slot
    pub wire : wire_of all tracks (slot_number all slot) ≡ w

  -- the wire of a line of a slot
  pub track-wire : (n : ℕ) (e : Elem) (s : Slot) → elem_slot n e ≡ Some s
      → elem_wire (retracked n e)
      ≡ Some (record { cell = s.cell; track = slice_index tracks (slot_number all s) })
  track-wire n e s is =
      let cell = slot-cell n e s is in
      let track : shown all tracks n e ≡ slice_index tracks (slot_number all s) =
      ap (λ (o : Option Slot). option_map_or (λ t. slice_index tracks (slot_number all t)) o
      e.number) is in
      λ k. option_map {T = Cell} {U = Wire} (λ c. record { cell = c; track = track k }) (cell k)

  -- a channel that comes again is on its wire again
  pub met-again : (n : ℕ) (e : Elem) (before : List Elem) (s : Slot) → elem_slot n e ≡ Some s
      → list_any (same_elem e) before ≡ true
      → option_map_or (has_wire (map (retracked n) before)) (wire_on (Some (retracked n e))) false
      ≡ true
  met-again n e before s slot again =
      let wire : Wire = record { cell = s.cell; track = slice_index tracks (slot_number all s) } in
      let any = In-list_any (same_slot s) (filter_map (elem_slot n) before)
      (again-any n e s before slot again) in
      let earlier = from_In-filter_map (elem_slot n) before any.0 any.1 in
      let same : elem_slot n earlier.0 ≡ Some s =
      earlier.2 ∙ ap (λ (t : Slot). Some t) (sym (same_slot-is s any.0 any.2)) in
      (λ k. option_map_or (has_wire (map (retracked n) before)) (track-wire n e s slot k) false)
      ∙ list_any-from_In (is_on_wire wire) (map (retracked n) before) (retracked n earlier.0)
      (In-map (retracked n) before earlier.0 earlier.1)
      ((λ k. option_map_or (same_wire wire) (track-wire n earlier.0 s same k) false)
      ∙ same_wire-itself wire)

  -- the wire of a channel line with its track
  pub line-wire : (n : ℕ) (net : RouteNet) (i : ℕ) (e : Elem) (s : Slot)
      → slice_get p.route.nets n ≡ Some net → slice_get net.elems i ≡ Some e
      → elem_slot n e ≡ Some s
      → (slot_at all (slot_number all s) ≡ s) × (slot_number all s < length all)
      × (elem_wire (retracked n e) ≡ Some (wire_of all tracks (slot_number all s)))
  line-wire n net i e s here at slot =
      let found = slot-in p.route.nets n net i e s here at slot in
      let there = slot-there all s found in (
        there,
        position-below (same_slot s) all found,
        track-wire n e s slot ∙ (λ k. Some (record {
          cell = (sym there k).cell;
          track = slice_index tracks (slot_number all s);
        })),
      )

  pub slot-wire : (n : ℕ) (net : RouteNet) (i : ℕ) (e : Elem) (w : Wire)
      → slice_get p.route.nets n ≡ Some net → slice_get net.elems i ≡ Some e
      → elem_wire (retracked n e) ≡ Some w → IsSlotWire n e w
  slot-wire n net i e w here at is = go (elem_cell e) refl
    where
      go : (o : Option Cell) → elem_cell e ≡ o → IsSlotWire n e w
      go None none = absurd (let clash : None ≡ Some w =
          sym (ap (λ (o : Option Cell). option_map {T = Cell} {U = Wire}
          (λ c. record { cell = c; track = shown all tracks n e }) o) none) ∙ is in cc)
      go (Some c) some =
          let s : Slot = record { net = n; cell = c } in
          let slot : elem_slot n e ≡ Some s =
          ap (λ (o : Option Cell). option_map {T = Cell} {U = Slot}
          (λ d. record { net = n; cell = d }) o) some in
          let facts = line-wire n net i e s here at slot in
          let both : Some (wire_of all tracks (slot_number all s)) ≡ Some w =
          sym facts.2 ∙ is in
          record { slot = s; is = slot; within = facts.1; there = facts.0; wire = cc }

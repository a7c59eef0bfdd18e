-- Tracks with which a route is judged legal are those of a legal routing.
use Rattle.std.proofs.Common.{◌≡◌, ℕ, suc, ◌<◌, Bool, true, false, Option, Some, None, List, [], ◌∷◌, ◌++◌, length, take, refl, sym, ap, subst, ◌∙◌, inl, inr, arith, zero-add}
use Rattle.std.specs.Prelude.{◌&&◌, ◌||◌, ◌==◌, All, filter_map, map, nat_lt, not, option_map, slice_get, slice_index}
use Rattle.std.specs.List.{AllByRecursion, enumerate_from, last_or}
use Rattle.std.specs.Option.{option_map_or}
use Rattle.std.proofs.lemmas.Bool.{cases_lt, eqb-true, false≢true, lt-ltb, ltb-true, not-false, or_parts}
use Rattle.std.proofs.lemmas.List.{get_or_default}
use Rattle.list_laws.proofs.Members.{In, In-map, list_any-from_In}
use Rattle.list_laws.proofs.Numbered.{numbered-here, numbered-there}
use Rattle.list_laws.proofs.Places.{In-place, get-In, get-taken, last-changed, last-push, take-get}
use Rattle.fpga_graph.specs.GraphOf.{GraphOf}
use Rattle.fpga_text.specs.FirstFault.{Faults, IsFaultless, first_fault}
use Rattle.fpga_text.proofs.FaultLemmas.{first_fault-append, option_or-none}
use Rattle.fpga_types.specs.Boxes.{Opens, opens}
use Rattle.fpga_types.specs.Fit.{RouteLine, route_lines}
use Rattle.fpga_types.specs.Legal.{IsLegalFor, route_of, wire_of}
use Rattle.fpga_types.specs.Problem.{RoutingProblem}
use Rattle.fpga_types.specs.Slots.{adjacent, either, elem_pin, elem_slot, pin_step_of, pin_steps, slot_at, slot_number, slots, step_of, steps}
use Rattle.fpga_types.specs.Touching.{touches}
use Rattle.fpga_types.specs.Tracks.{AreJoined, mapped_track, track_across}
use Rattle.fpga_types.specs.declared.grid.PinAt.{PinAt}
use Rattle.fpga_types.specs.declared.grid.Wire.{Wire}
use Rattle.fpga_types.specs.declared.problem.PinStep.{PinStep}
use Rattle.fpga_types.specs.declared.problem.RouteStep.{RouteStep}
use Rattle.fpga_types.specs.declared.problem.Slot.{Slot}
use Rattle.fpga_types.specs.declared.route.Elem.{Elem}
use Rattle.fpga_types.specs.declared.route.RouteNet.{RouteNet}
use Rattle.fpga_types.specs.declared.route.RouteText.{RouteText}
use Rattle.fpga_types.proofs.BoxLemmas.{opens-is}
use Rattle.fpga_types.proofs.MeetingLemmas.{across-joined, both_true}
use Rattle.fpga_bounds.specs.PinList.{pin_step_beside}
use Rattle.fpga_bounds.proofs.LineLemmas.{elem_line}
use Rattle.fpga_bounds.proofs.PairLemmas.{slots-distinct}
use Rattle.fpga_bounds.proofs.PinFacts.{pin-parts}
use Rattle.fpga_bounds.proofs.SlotLines.{number-there, slot-among, slot-line}
use Rattle.fpga_bounds.proofs.StepFacts.{adjacent-there, each-all, each-brought, each-made, step-parts}
use Rattle.route_verify.specs.Judged.{array_cause, causes, end_cause, graph_of, judged, line_cause, line_causes}
use Rattle.route_verify.specs.Lines.{has_wire, is_on_wire, is_too_high, is_unconnected, is_wire_of, judged_line}
use Rattle.route_verify.specs.Wiring.{are_joined, are_parted, are_unconnected, elem_wire, misses, reaches, same_wire}
use Rattle.route_verify.specs.declared.judgement.Judgement.TheVariants.{Legal}
use Rattle.route_verify.proofs.CodeLemmas.{IsSilent, faultless-each, silent-codes}
use Rattle.route_verify.proofs.LimitLemmas.{first-is-cause, legal-exactly}
use Rattle.route_verify.proofs.SlotWires.{line-wire, same_wire-itself, track-wire}
use Rattle.route_verify.proofs.TrackLemmas.{pin-tracked, tracked, tracked_net, tracked_nets}
use Rattle.route_verify.proofs.TrackedLines.{route_of-is, tracked-among, tracked_line, tracked_route}

module _ (p : RoutingProblem) (width : ℕ) (tracks : List ℕ)
    (each : length tracks ≡ length (slots p.route))
    (clean : judged width p (route_of p.route tracks) ≡ Legal) where
  abbrev all : List Slot
  all = slots p.route

  abbrev nets : List RouteNet
  nets = p.route.nets

  abbrev g : GraphOf
  g = graph_of width p

  abbrev retracked : ℕ → Elem → Elem
  retracked = tracked all tracks

  abbrev found : RouteText
  found = tracked_route p.route tracks

  -- no cause holds at a line
  lines-clean : IsFaultless (map (line_cause width p) (route_lines found))
  lines-clean =
      let lines : Faults = map (line_cause width p) (route_lines found) in
      let none : IsFaultless (causes width p found) =
      (legal-exactly (first_fault (causes width p found)) (first-is-cause None width p found)).0
      (sym (ap (judged width p) (route_of-is p.route tracks)) ∙ clean) in
      let behind = option_or-none (array_cause p found)
      (first_fault (lines ++ end_cause p found ∷ [])) none in
      (option_or-none (first_fault lines) (first_fault (end_cause p found ∷ []))
      (sym (first_fault-append lines (end_cause p found ∷ [])) ∙ behind.1)).0

  module _ (n : ℕ) (net : RouteNet) (i : ℕ) (e : Elem) (here : slice_get nets n ≡ Some net)
      (at : slice_get net.elems i ≡ Some e) where
    abbrev line : RouteLine
    line = tracked_line all tracks n (elem_line (take n nets) net i e)

    silent : AllByRecursion (IsSilent g (judged_line p line)) line_causes
    silent = silent-codes g (judged_line p line) line_causes e.line
        (faultless-each (line_cause width p) (route_lines found) lines-clean line
        (tracked-among all tracks nets n net i e here at))

    unconnected : is_unconnected g (judged_line p line) ≡ false
    unconnected = silent.0

    low : is_too_high g (judged_line p line) ≡ false
    low = silent.1.0

    alone : (judged_line p line).wire_taken ≡ false
    alone = silent.1.1.0

  -- each track is below the width
  track-below : (k : ℕ) → k < length all → slice_index tracks k < width
  track-below k inside =
      let s : Slot = slot_at all k in
      let there = slot-line p.route s (slot-among all k inside) in
      let place = In-place there.net.elems there.elem there.among in
      let past : not (nat_lt (slice_index tracks (slot_number all s)) width) ≡ false =
      sym (λ j. option_map_or (λ (wire : Wire). not (nat_lt wire.track width))
      (track-wire p tracks s.net there.elem s there.is j) false)
      ∙ low s.net there.net place.0 there.elem there.here place.1 in
      subst (λ (m : ℕ). slice_index tracks m < width)
      (number-there all (slots-distinct p.route) k inside)
      (ltb-true _ _ (not-false _ past))

  module _ (n : ℕ) (net : RouteNet) (i : ℕ) (a b : Elem) (here : slice_get nets n ≡ Some net)
      (at_a : slice_get net.elems i ≡ Some a) (at_b : slice_get net.elems (suc i) ≡ Some b) where
    before : last_or None (map (retracked n) (take (suc i) net.elems)) ≡ Some (retracked n a)
    before = last-changed (retracked n) None (take (suc i) net.elems)
        ∙ ap (option_map (retracked n)) (ap (last_or None) (take-get net.elems i a at_a)
        ∙ last-push None (take i net.elems) a)

    abbrev parted : Bool
    parted = are_parted g (elem_wire (retracked n a)) (elem_wire (retracked n b))

    abbrev missed_first : Bool
    missed_first = misses g (elem_pin (retracked n a)) (elem_wire (retracked n b))

    abbrev missed_second : Bool
    missed_second = misses g (elem_pin (retracked n b)) (elem_wire (retracked n a))

    connected : (parted || missed_first || missed_second) ≡ false
    connected = sym (ap (λ (o : Option Elem). are_unconnected g o (Some (retracked n b))) before)
        ∙ unconnected n net (suc i) b here at_b

    parts : ((parted || missed_first) ≡ false) × (missed_second ≡ false)
    parts = or_parts (parted || missed_first) missed_second connected

    -- the wires of neighbours are joined
    step-joined : (u v : Slot) → elem_slot n a ≡ Some u → elem_slot n b ≡ Some v
        → AreJoined (mapped_track p.arch.pattern width) p.route.grid
        (wire_of all tracks (slot_number all u)) (wire_of all tracks (slot_number all v))
    step-joined u v slot_a slot_b =
        let first = line-wire p tracks n net i a u here at_a slot_a in
        let second = line-wire p tracks n net (suc i) b v here at_b slot_b in
        let from : Wire = wire_of all tracks (slot_number all u) in
        let to : Wire = wire_of all tracks (slot_number all v) in
        let apart : are_parted g (Some from) (Some to) ≡ false =
        sym (λ k. are_parted g (first.2 k) (second.2 k))
        ∙ (or_parts parted missed_first parts.0).0 in
        let meet : are_joined g from to ≡ true =
        (let low = lt-ltb from.track width (track-below (slot_number all u) first.1) in
        let high = lt-ltb to.track width (track-below (slot_number all v) second.1) in
        not-false (are_joined g from to)
        (sym (λ k. low k && high k && not (are_joined g from to)) ∙ apart)) in
        across-joined (mapped_track p.arch.pattern width) p.route.grid from to
        (go (track_across (mapped_track p.arch.pattern width) p.route.grid from.cell to.cell
        from.track) to.track meet)
      where
        go : (o : Option ℕ) (t : ℕ) → option_map_or (λ m. m == t) o false ≡ true → o ≡ Some t
        go None t is = absurd (false≢true is)
        go (Some m) t is = ap (λ (k : ℕ). Some k) (eqb-true m t is)

    -- a pin that is not missed opens the track
    pin-opens : (pin : PinAt) (s : Slot) (o : Option PinAt) (w : Option Wire) → o ≡ Some pin
        → w ≡ Some (wire_of all tracks (slot_number all s)) → slot_number all s < length all
        → misses g o w ≡ false
        → Opens p.arch width pin (slice_index tracks (slot_number all s))
    pin-opens pin s o w pin_is wire_is inside hit =
        let wire : Wire = wire_of all tracks (slot_number all s) in
        let test : misses g (Some pin) (Some wire) ≡ false =
        sym (λ k. misses g (pin_is k) (wire_is k)) ∙ hit in
        let reach : reaches g pin wire ≡ true =
        (let low = lt-ltb wire.track width (track-below (slot_number all s) inside) in
        not-false (reaches g pin wire) (sym (λ k. low k && not (reaches g pin wire)) ∙ test)) in
        (opens-is p.arch width pin wire.track).0
        (both_true (touches p.arch p.route.grid pin wire.cell) (opens p.arch width pin wire.track)
        reach).1

    step-opens : (s : PinStep) → pin_step_beside all n (a, b) ≡ Some s
        → Opens p.arch width s.pin (slice_index tracks s.slot)
    step-opens s made = go (pin_step_of all (elem_pin a) (elem_slot n b)) refl made
      where
        go : (o : Option PinStep) → pin_step_of all (elem_pin a) (elem_slot n b) ≡ o
            → either o (pin_step_of all (elem_pin b) (elem_slot n a)) ≡ Some s
            → Opens p.arch width s.pin (slice_index tracks s.slot)
        go (Some q) is h =
            let ends = pin-parts all (elem_pin a) (elem_slot n b) s (is ∙ h) in
            let wire = line-wire p tracks n net (suc i) b ends.1 here at_b ends.3 in
            subst (λ (r : PinStep). Opens p.arch width r.pin (slice_index tracks r.slot)) ends.4
            (pin-opens ends.0 ends.1 (elem_pin (retracked n a)) (elem_wire (retracked n b))
            (pin-tracked all tracks n a ∙ ends.2) wire.2 wire.1
            (or_parts parted missed_first parts.0).1)
        go None is h =
            let ends = pin-parts all (elem_pin b) (elem_slot n a) s h in
            let wire = line-wire p tracks n net i a ends.1 here at_a ends.3 in
            subst (λ (r : PinStep). Opens p.arch width r.pin (slice_index tracks r.slot)) ends.4
            (pin-opens ends.0 ends.1 (elem_pin (retracked n b)) (elem_wire (retracked n a))
            (pin-tracked all tracks n b ∙ ends.2) wire.2 wire.1
            parts.1)

  -- each pair of neighbours
  abbrev IsJoinedStep : RouteStep → Type 0
  IsJoinedStep s = AreJoined (mapped_track p.arch.pattern width) p.route.grid
      (wire_of all tracks s.from) (wire_of all tracks s.to)

  abbrev IsOpenStep : PinStep → Type 0
  IsOpenStep s = Opens p.arch width s.pin (slice_index tracks s.slot)

  at-number : (k : ℕ) (z : ℕ × RouteNet) → slice_get (enumerate_from 0 nets) k ≡ Some z
      → slice_get nets z.0 ≡ Some z.1
  at-number k z numbered =
      let place = numbered-there 0 nets k z numbered in
      ap (slice_get nets) (place.0 ∙ zero-add k) ∙ place.1

  steps-joined : All IsJoinedStep (steps p.route)
  steps-joined = each-all IsJoinedStep (steps p.route) (each-brought IsJoinedStep
      (λ (m : ℕ × RouteNet). filter_map
      (λ q. step_of all (elem_slot m.0 q.0) (elem_slot m.0 q.1)) (adjacent m.1.elems))
      (enumerate_from 0 nets) (λ k z numbered.
      each-made IsJoinedStep (λ q. step_of all (elem_slot z.0 q.0) (elem_slot z.0 q.1))
      (adjacent z.1.elems) (λ i q s beside made.
      let at = adjacent-there z.1.elems i q beside in
      let ends = step-parts all (elem_slot z.0 q.0) (elem_slot z.0 q.1) s made in
      subst IsJoinedStep ends.4 (step-joined z.0 z.1 i q.0 q.1 (at-number k z numbered) at.0 at.1
      ends.0 ends.1 ends.2 ends.3))))

  steps-open : All IsOpenStep (pin_steps p.route)
  steps-open = each-all IsOpenStep (pin_steps p.route) (each-brought IsOpenStep
      (λ (m : ℕ × RouteNet). filter_map (pin_step_beside all m.0) (adjacent m.1.elems))
      (enumerate_from 0 nets) (λ k z numbered.
      each-made IsOpenStep (pin_step_beside all z.0) (adjacent z.1.elems) (λ i q s beside made.
      let at = adjacent-there z.1.elems i q beside in
      step-opens z.0 z.1 i q.0 q.1 (at-number k z numbered) at.0 at.1 s made)))

  -- no net takes a wire of an earlier one
  rivals : (a b : ℕ) → a < length all → b < length all
      → (slot_at all a).net < (slot_at all b).net → (slot_at all a).cell ≡ (slot_at all b).cell
      → slice_index tracks a ≡ slice_index tracks b → ⊥
  rivals a b low_a low_b earlier cells same =
      let s : Slot = slot_at all a in
      let t : Slot = slot_at all b in
      let first = slot-line p.route s (slot-among all a low_a) in
      let second = slot-line p.route t (slot-among all b low_b) in
      let place = In-place second.net.elems second.elem second.among in
      let distinct = slots-distinct p.route in
      let wire : Wire = record { cell = t.cell; track = slice_index tracks (slot_number all t) } in
      let track : slice_index tracks (slot_number all s) ≡ slice_index tracks (slot_number all t) =
      ap (slice_index tracks) (number-there all distinct a low_a) ∙ same
      ∙ sym (ap (slice_index tracks) (number-there all distinct b low_b)) in
      let on : is_on_wire wire (retracked s.net first.elem) ≡ true =
      (λ k. option_map_or (same_wire wire)
      (track-wire p tracks s.net first.elem s first.is k) false)
      ∙ (λ k. same_wire wire (record { cell = cells k; track = track k }))
      ∙ same_wire-itself wire in
      let has : has_wire (map (retracked s.net) first.net.elems) wire ≡ true =
      list_any-from_In (is_on_wire wire) (map (retracked s.net) first.net.elems)
      (retracked s.net first.elem)
      (In-map (retracked s.net) first.net.elems first.elem first.among) on in
      let front : List RouteNet = take t.net nets in
      let among : In (tracked_nets all tracks 0 front) (tracked_net all tracks s.net first.net) =
      In-map (λ (m : ℕ × RouteNet). tracked_net all tracks m.0 m.1) (enumerate_from 0 front)
      (s.net, first.net)
      (get-In (enumerate_from 0 front) s.net (s.net, first.net)
      (numbered-here 0 front s.net first.net
      (get-taken nets t.net s.net first.net earlier first.here)
      ∙ (λ k. Some (zero-add s.net k, first.net)))) in
      let taken : is_wire_of (tracked_nets all tracks 0 front) wire ≡ true =
      list_any-from_In (λ (net : RouteNet). has_wire net.elems wire)
      (tracked_nets all tracks 0 front) (tracked_net all tracks s.net first.net) among has in
      false≢true (sym (alone t.net second.net place.0 second.elem second.here place.1)
      ∙ (λ k. option_map_or (is_wire_of (tracked_nets all tracks 0 front))
      (track-wire p tracks t.net second.elem t second.is k) false)
      ∙ taken)

  pub legal-tracks : IsLegalFor p.arch width p.route tracks
  legal-tracks = record {
    each = each;
    within = λ k d inside. subst (λ (t : ℕ). t < width) (get_or_default tracks k 0 d inside)
        (track-below k (omega (arith, inside, each)));
    joined = steps-joined;
    reached = steps-open;
    apart = λ a b low_a low_b other cells same.
        elim (cases_lt (slot_at all a).net (slot_at all b).net) [
          | inl earlier ↦ rivals a b low_a low_b earlier cells same
          | inr not_earlier ↦ elim (cases_lt (slot_at all b).net (slot_at all a).net) [
            | inl later ↦ rivals b a low_b low_a later (sym cells) (sym same)
            | inr not_later ↦ other (omega arith)
          ]
        ];
  }

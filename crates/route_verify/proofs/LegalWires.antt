-- The wires of a problem's route with the tracks of a legal routing: below the width, joined by the
-- fabric where they stand next to each other, open to the pins beside them, and of one net each.
use Rattle.std.proofs.Common.{◌≡◌, ℕ, zero, suc, ◌<◌, Bool, true, false, Option, Some, None, List, [], ◌∷◌, length, take, refl, sym, ap, subst, inl, inr, ◌∙◌, arith, zero-add}
use Rattle.std.specs.Prelude.{◌&&◌, ◌||◌, ◌==◌, filter_map, map, nat_lt, not, option_map, slice_get, slice_index}
use Rattle.std.specs.List.{enumerate_from}
use Rattle.std.specs.Option.{option_map_or}
use Rattle.std.proofs.Math.Bool.{and-false}
use Rattle.std.proofs.lemmas.Bool.{eq-eqb, eqb-true, false≢true, lt-ltb}
use Rattle.list_laws.proofs.Members.{In, In-all, In-filter_map, In-flat_map, In-list_any, from_In-map}
use Rattle.list_laws.proofs.Numbered.{from_In-enumerate, numbered-here}
use Rattle.list_laws.proofs.Places.{In-place, any-changed, get-In, get-take}
use Rattle.fpga_graph.specs.GraphOf.{GraphOf}
use Rattle.fpga_types.specs.Boxes.{Opens, opens}
use Rattle.fpga_types.specs.Fabric.{same_cell}
use Rattle.fpga_types.specs.Fits.{Fits}
use Rattle.fpga_types.specs.Legal.{IsLegalFor, wire_of}
use Rattle.fpga_types.specs.Problem.{RoutingProblem}
use Rattle.fpga_types.specs.Slots.{adjacent, channel_at, either, elem_pin, elem_slot, pin_at, pin_step_of, pin_steps, slot_number, slots, step_of, steps}
use Rattle.fpga_types.specs.Sound.{IsSound}
use Rattle.fpga_types.specs.Touching.{touches}
use Rattle.fpga_types.specs.Tracks.{AreJoined, mapped_track}
use Rattle.fpga_types.specs.declared.grid.Cell.{Cell}
use Rattle.fpga_types.specs.declared.grid.PinAt.{PinAt}
use Rattle.fpga_types.specs.declared.grid.Wire.{Wire}
use Rattle.fpga_types.specs.declared.problem.PinStep.{PinStep}
use Rattle.fpga_types.specs.declared.problem.RouteStep.{RouteStep}
use Rattle.fpga_types.specs.declared.problem.Slot.{Slot}
use Rattle.fpga_types.specs.declared.route.Elem.{Elem}
use Rattle.fpga_types.specs.declared.route.ElemKind.{ElemKind}
use Rattle.fpga_types.specs.declared.route.ElemKind.TheVariants.{Source, Opin, ChanX, ChanY, Ipin, Sink}
use Rattle.fpga_types.specs.declared.route.RouteNet.{RouteNet}
use Rattle.fpga_types.proofs.BoxLemmas.{opens-is, touches-is}
use Rattle.fpga_types.proofs.MeetingLemmas.{both_true, joined-across, same_cell-is}
use Rattle.fpga_bounds.specs.Problem.{IsPinStepTouching}
use Rattle.fpga_bounds.specs.PinList.{pin_step_beside}
use Rattle.fpga_bounds.proofs.PinFacts.{good-pins}
use Rattle.fpga_bounds.proofs.SlotLines.{slot-net}
use Rattle.route_verify.specs.Judged.{graph_of}
use Rattle.route_verify.specs.Lines.{has_wire, is_on_wire, is_wire_of}
use Rattle.route_verify.specs.Wiring.{are_joined, are_parted, are_unconnected, elem_wire, is_past_width, misses, same_wire, wire_on}
use Rattle.route_verify.proofs.SlotWires.{slot-wire}
use Rattle.route_verify.proofs.TrackLemmas.{pin-tracked, tracked, tracked_net, tracked_nets}

-- two elements that stand next to each other
next-In : {T : Type 0} (xs : List T) (k : ℕ) (a b : T) → slice_get xs k ≡ Some a
    → slice_get xs (suc k) ≡ Some b → In (adjacent xs) (a, b)
next-In [] k a b p q = cc
next-In (x ∷ []) zero a b p q = cc
next-In (x ∷ []) (suc k) a b p q = cc
next-In {T} (x ∷ y ∷ ys) zero a b p q =
    let first : x ≡ a = cc in let second : y ≡ b = cc in inl (λ i. (first i, second i))
next-In (x ∷ y ∷ ys) (suc k) a b p q = inr (next-In (y ∷ ys) k a b p q)

-- a channel line has no pin
no_pin : (n : ℕ) (e : Elem) (s : Slot) → elem_slot n e ≡ Some s → elem_pin e ≡ None
no_pin n e s is = go e.kind is
  where
    go : (kind : ElemKind) → option_map {T = Cell} {U = Slot}
        (λ cell. record { net = n; cell = cell }) (channel_at kind e.x e.y) ≡ Some s
        → pin_at kind e ≡ None
    go Source h = cc
    go Opin h = cc
    go ChanX h = refl
    go ChanY h = refl
    go Ipin h = cc
    go Sink h = cc

no_step : (all : List Slot) (o : Option Slot) → pin_step_of all None o ≡ None
no_step all None = refl
no_step all (Some s) = refl

module _ (p : RoutingProblem) (sound : IsSound p.route) (fits : Fits p) (width : ℕ)
    (tracks : List ℕ) (legal : IsLegalFor p.arch width p.route tracks) where
  abbrev all : List Slot
  all = slots p.route

  abbrev g : GraphOf
  g = graph_of width p

  abbrev retracked : ℕ → Elem → Elem
  retracked = tracked all tracks

  -- the track is below the width
  below : (w : Wire) (s : ℕ) → s < length all → wire_of all tracks s ≡ w → nat_lt w.track width
      ≡ true
  below w s within wire =
      let inside : s < length tracks = omega (arith, within, legal.each) in
      let low : slice_index tracks s < width = legal.within s 0 inside in
      subst (λ (t : ℕ). nat_lt t width ≡ true) (ap (λ (v : Wire). v.track) wire)
      (lt-ltb (slice_index tracks s) width low)

  module _ (n : ℕ) (net : RouteNet) (here : slice_get p.route.nets n ≡ Some net) where
    numbered : In (enumerate_from 0 p.route.nets) (n, net)
    numbered = get-In (enumerate_from 0 p.route.nets) n (n, net)
        (numbered-here 0 p.route.nets n net here
        ∙ (λ k. Some (zero-add n k, net)))

    -- a line of a track at the width or above is not there
    pub not-past : (i : ℕ) (e : Elem) → slice_get net.elems i ≡ Some e
        → is_past_width g (Some (retracked n e)) ≡ false
    not-past i e at = go (elem_wire (retracked n e)) refl
      where
        go : (o : Option Wire) → elem_wire (retracked n e) ≡ o
            → option_map_or (λ (wire : Wire). not (nat_lt wire.track width)) o false ≡ false
        go None is = refl
        go (Some w) is = let s = slot-wire p tracks n net i e w here at is in
            ap not (below w (slot_number all s.slot) s.within s.wire)

    module _ (i : ℕ) (a b : Elem) (at_a : slice_get net.elems i ≡ Some a)
        (at_b : slice_get net.elems (suc i) ≡ Some b) where
      beside : In (adjacent net.elems) (a, b)
      beside = next-In net.elems i a b at_a at_b

      -- two channel lines next to each other are joined
      not-parted : are_parted g (elem_wire (retracked n a)) (elem_wire (retracked n b)) ≡ false
      not-parted = go (elem_wire (retracked n a)) (elem_wire (retracked n b)) refl refl
        where
          go : (o q : Option Wire) → elem_wire (retracked n a) ≡ o → elem_wire (retracked n b) ≡ q
              → are_parted g o q ≡ false
          go None None is are = refl
          go None (Some v) is are = refl
          go (Some u) None is are = refl
          go (Some u) (Some v) is are =
              let s = slot-wire p tracks n net i a u here at_a is in
              let t = slot-wire p tracks n net (suc i) b v here at_b are in
              let step : RouteStep = record {
                from = slot_number all s.slot;
                to = slot_number all t.slot;
              } in
              let among : In (steps p.route) step =
              In-flat_map (λ (m : ℕ × RouteNet). filter_map
              (λ q. step_of all (elem_slot m.0 q.0) (elem_slot m.0 q.1)) (adjacent m.1.elems))
              (enumerate_from 0 p.route.nets) (n, net) step numbered
              (In-filter_map (λ q. step_of all (elem_slot n q.0) (elem_slot n q.1))
              (adjacent net.elems) (a, b) step beside
              (λ k. step_of all (s.is k) (t.is k))) in
              let joined : AreJoined (mapped_track p.arch.pattern width) p.route.grid u v =
              subst (λ (w : Wire). AreJoined (mapped_track p.arch.pattern width) p.route.grid u w)
              t.wire
              (subst (λ (w : Wire). AreJoined (mapped_track p.arch.pattern width) p.route.grid w
              (wire_of all tracks step.to)) s.wire
              (In-all (λ (r : RouteStep). AreJoined (mapped_track p.arch.pattern width)
              p.route.grid (wire_of all tracks r.from) (wire_of all tracks r.to)) (steps p.route)
              step legal.joined among)) in
              let meet : are_joined g u v ≡ true =
              ap (λ (o : Option ℕ). option_map_or (λ t. t == v.track) o false)
              (joined-across (mapped_track p.arch.pattern width) p.route.grid u v joined)
              ∙ eq-eqb v.track v.track refl in
              (λ k. nat_lt u.track width && nat_lt v.track width && not (meet k))
              ∙ and-false (nat_lt u.track width && nat_lt v.track width)

      -- a pin and a channel line that make a pin step
      not-missed : (e : Elem) (j : ℕ) (pin : PinAt) (w : Wire) → slice_get net.elems j ≡ Some e
          → elem_wire (retracked n e) ≡ Some w
          → ((s : Slot) → elem_slot n e ≡ Some s
          → pin_step_beside all n (a, b)
          ≡ Some (record { pin = pin; slot = slot_number all s }))
          → misses g (Some pin) (Some w) ≡ false
      not-missed e j pin w at is makes =
          let s = slot-wire p tracks n net j e w here at is in
          let step : PinStep = record { pin = pin; slot = slot_number all s.slot } in
          let among : In (pin_steps p.route) step =
          In-flat_map
          (λ (m : ℕ × RouteNet). filter_map (pin_step_beside all m.0) (adjacent m.1.elems))
          (enumerate_from 0 p.route.nets) (n, net) step numbered
          (In-filter_map (pin_step_beside all n) (adjacent net.elems) (a, b) step beside
          (makes s.slot s.is)) in
          let touching : IsPinStepTouching p step =
          In-all (IsPinStepTouching p) (pin_steps p.route) step (good-pins p fits sound) among in
          let open_to : Opens p.arch width pin (slice_index tracks step.slot) =
          In-all (λ (r : PinStep). Opens p.arch width r.pin (slice_index tracks r.slot))
          (pin_steps p.route) step legal.reached among in
          let touched : touches p.arch p.route.grid pin w.cell ≡ true =
          subst (λ (v : Wire). touches p.arch p.route.grid pin v.cell ≡ true) s.wire
          ((touches-is p.arch p.route.grid pin
          (wire_of all tracks step.slot).cell).1 touching.touches) in
          let opened : opens p.arch width pin w.track ≡ true =
          subst (λ (v : Wire). opens p.arch width pin v.track ≡ true) s.wire
          ((opens-is p.arch width pin (slice_index tracks step.slot)).1 open_to) in
          (λ k. nat_lt w.track width && not (touched k && opened k))
          ∙ and-false (nat_lt w.track width)

      pin-first : misses g (elem_pin (retracked n a)) (elem_wire (retracked n b)) ≡ false
      pin-first = (λ k. misses g (pin-tracked all tracks n a k) (elem_wire (retracked n b)))
          ∙ go (elem_pin a) (elem_wire (retracked n b)) refl refl
        where
          go : (o : Option PinAt) (q : Option Wire) → elem_pin a ≡ o
              → elem_wire (retracked n b) ≡ q → misses g o q ≡ false
          go None None is are = refl
          go None (Some w) is are = refl
          go (Some pin) None is are = refl
          go (Some pin) (Some w) is are =
              not-missed b (suc i) pin w at_b are (λ s slot.
              (λ k. either (pin_step_of all (is k) (slot k))
              (pin_step_of all (elem_pin b) (elem_slot n a))))

      pin-second : misses g (elem_pin (retracked n b)) (elem_wire (retracked n a)) ≡ false
      pin-second = (λ k. misses g (pin-tracked all tracks n b k) (elem_wire (retracked n a)))
          ∙ go (elem_pin b) (elem_wire (retracked n a)) refl refl
        where
          go : (o : Option PinAt) (q : Option Wire) → elem_pin b ≡ o
              → elem_wire (retracked n a) ≡ q → misses g o q ≡ false
          go None None is are = refl
          go None (Some w) is are = refl
          go (Some pin) None is are = refl
          go (Some pin) (Some w) is are =
              not-missed a i pin w at_a are (λ s slot.
              (λ k. either (pin_step_of all (no_pin n a s slot k) (elem_slot n b))
              (pin_step_of all (is k) (slot k)))
              ∙ (λ k. either (no_step all (elem_slot n b) k)
              (pin_step_of all (Some pin) (Some s))))

      -- lines next to each other are connected
      pub connected : are_unconnected g (Some (retracked n a)) (Some (retracked n b)) ≡ false
      connected = λ k. not-parted k || pin-first k || pin-second k

    module _ (i : ℕ) (e : Elem) (at : slice_get net.elems i ≡ Some e) where
      -- a wire of an earlier net is another
      pub alone : option_map_or (is_wire_of (tracked_nets all tracks 0 (take n p.route.nets)))
          (wire_on (Some (retracked n e))) false ≡ false
      alone = go (elem_wire (retracked n e)) refl
        where
          clash : (w : Wire) → elem_wire (retracked n e) ≡ Some w → (m : ℕ) (other : RouteNet)
              → slice_get (take n p.route.nets) m ≡ Some other → (d : Elem) → In other.elems d
              → is_on_wire w (retracked m d) ≡ true → ⊥
          clash w is m other there d within same =
              on (elem_wire (retracked m d)) refl same
            where
              on : (o : Option Wire) → elem_wire (retracked m d) ≡ o
                  → option_map_or (same_wire w) o false ≡ true → ⊥
              on None none h = false≢true h
              on (Some v) some h =
                  let place = get-take p.route.nets n m other there in
                  let spot = In-place other.elems d within in
                  let s = slot-wire p tracks n net i e w here at is in
                  let t = slot-wire p tracks m other spot.0 d v place.1 spot.1 some in
                  let parts = both_true (same_cell w.cell v.cell) (w.track == v.track) h in
                  let cells : w.cell ≡ v.cell = same_cell-is w.cell v.cell parts.0 in
                  let found : w.track ≡ v.track = eqb-true w.track v.track parts.1 in
                  let first : s.slot.net ≡ n = slot-net n e s.slot s.is in
                  let second : t.slot.net ≡ m = slot-net m d t.slot t.is in
                  legal.apart (slot_number all s.slot) (slot_number all t.slot) s.within t.within
                  (λ one. let nets : n ≡ m = sym first ∙ sym (ap (λ (z : Slot). z.net) s.there)
                  ∙ one ∙ ap (λ (z : Slot). z.net) t.there ∙ second in
                  omega (arith, place.0, nets))
                  (ap (λ (z : Wire). z.cell) s.wire ∙ cells
                  ∙ sym (ap (λ (z : Wire). z.cell) t.wire))
                  (ap (λ (z : Wire). z.track) s.wire ∙ found
                  ∙ sym (ap (λ (z : Wire). z.track) t.wire))

          taken : (w : Wire) → elem_wire (retracked n e) ≡ Some w → (b : Bool)
              → is_wire_of (tracked_nets all tracks 0 (take n p.route.nets)) w ≡ b → b ≡ false
          taken w is false h = refl
          taken w is true h =
              let nets : List RouteNet = take n p.route.nets in
              let any = In-list_any (λ (other : RouteNet). has_wire other.elems w)
              (tracked_nets all tracks 0 nets) h in
              let made = from_In-map (λ (m : ℕ × RouteNet). tracked_net all tracks m.0 m.1)
              (enumerate_from 0 nets) any.0 any.1 in
              let place = from_In-enumerate 0 nets made.0 made.1 in
              let number : made.0.0 ≡ place.0 = place.1 ∙ zero-add place.0 in
              let has : has_wire (map (retracked made.0.0) made.0.1.elems) w ≡ true =
              ap (λ (other : RouteNet). has_wire other.elems w) made.2 ∙ any.2 in
              let line = In-list_any (λ d. is_on_wire w (retracked made.0.0 d)) made.0.1.elems
              (sym (any-changed (is_on_wire w) (retracked made.0.0) made.0.1.elems) ∙ has) in
              absurd (clash w is made.0.0 made.0.1
              (ap (slice_get nets) number ∙ place.2) line.0 line.1 line.2)

          go : (o : Option Wire) → elem_wire (retracked n e) ≡ o
              → option_map_or (is_wire_of (tracked_nets all tracks 0 (take n p.route.nets))) o false
              ≡ false
          go None is = refl
          go (Some w) is = taken w is _ refl

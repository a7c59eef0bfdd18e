-- The wires of a legal routing are a routing within each reach from the depth of the trace on.
use Rattle.std.proofs.Common.{◌≡◌, ℕ, zero, suc, ◌<◌, ◌≤◌, Bool, true, false, Option, Some, None, List, [], ◌∷◌, length, take, drop, refl, sym, ap, subst, ◌∙◌, inl, inr, arith}
use Rattle.std.specs.Prelude.{◌&&◌, ◌||◌, ◌==◌, max, nat_lt, not, Contains, filter_map, flat_map, map, slice_get, option_map, if◌then◌else◌}
use Rattle.std.specs.List.{last_or, list_any}
use Rattle.std.specs.Option.{option_map_or}
use Rattle.std.proofs.Math.Seq.{take-length}
use Rattle.std.proofs.lemmas.Bool.{false≢true, not-false, or_parts}
use Rattle.std.proofs.lemmas.List.FromFn.{length-map-range_with_len}
use Rattle.list_laws.proofs.Members.{In, In-all, In-contains, In-filter_map, In-flat_map, In-map, all-from_In, any-from_In, from_In-map}
use Rattle.list_laws.proofs.Places.{get-In, get-before, last-push, some_is, take-get}
use Rattle.fpga_graph.specs.GraphOf.{GraphOf}
use Rattle.fpga_graph.specs.Wires.{Reaches}
use Rattle.fpga_graph.proofs.Apart.{IsApart, all_pairs-apart, apart-filter, apart-range}
use Rattle.fpga_types.specs.Fit.{same_elem}
use Rattle.fpga_types.specs.Fits.{Fits}
use Rattle.fpga_types.specs.Kinds.{is_channel, is_ipin, is_opin, is_pin, is_sink, is_source, may_follow}
use Rattle.fpga_types.specs.Legal.{IsLegalFor, wire_of}
use Rattle.fpga_types.specs.Problem.{RoutingProblem}
use Rattle.fpga_types.specs.Slots.{adjacent, elem_cell, elem_pin, elem_slot, slot_at, slot_number, slots}
use Rattle.fpga_types.specs.Sound.{IsSound, IsSoundElem, IsSoundNet}
use Rattle.fpga_types.specs.declared.grid.Cell.{Cell}
use Rattle.fpga_types.specs.declared.grid.PinAt.{PinAt}
use Rattle.fpga_types.specs.declared.grid.Wire.{Wire}
use Rattle.fpga_types.specs.declared.problem.Slot.{Slot}
use Rattle.fpga_types.specs.declared.route.Elem.{Elem}
use Rattle.fpga_types.specs.declared.route.RouteNet.{RouteNet}
use Rattle.fpga_types.proofs.FitsLemmas.{Fits-line}
use Rattle.fpga_bounds.proofs.LineLemmas.{elem_line}
use Rattle.fpga_bounds.proofs.SlotLines.{slot-net}
use Rattle.route_encode.specs.Encoding.{below}
use Rattle.route_reach.specs.Encoding.{slots_in}
use Rattle.route_reach.specs.Ends.{ins, opin_of, outs, sink_pin}
use Rattle.route_reach.specs.Reach.{IsReached, IsReachLegal, IsWiredNet}
use Rattle.route_reach.specs.TraceDepth.{greatest, net_depths, trace_depth}
use Rattle.route_reach.specs.Trees.{ReachCoversStrict, TracksSayReached, slot_wires}
use Rattle.route_reach.proofs.Chains.{led-reached}
use Rattle.route_reach.proofs.DeepLemmas.{Before, IsWalk, by_channel, by_opin, by_sink, deep}
use Rattle.route_reach.proofs.ElemLemmas.{cell-equal, channel-wire, labelled-pin}
use Rattle.route_reach.proofs.FoundLemmas.{before-channel, channel-no_source, opin-is}
use Rattle.route_reach.proofs.LineFacts.{channel-kinds}
use Rattle.route_reach.proofs.ModelLemmas.{made-below}
use Rattle.route_reach.proofs.NetSinks.{before-ipin, ending, no-source}
use Rattle.route_reach.proofs.Wires.{from-slots_in, in-slots_in, joins-is, one-slot, reaches-is, slot-on_trace}
use Rattle.route_verify.specs.Depths.{DeepLine, deep_lines}
use Rattle.route_verify.specs.Judged.{graph_of}
use Rattle.route_verify.specs.Wiring.{are_joined, are_parted, elem_wire, misses, reaches}
use Rattle.route_verify.proofs.FittingLine.{IsFitting, fitting}
use Rattle.route_verify.proofs.LegalWires.{connected, not-past}
use Rattle.route_verify.proofs.SlotWires.{slot-wire, track-wire}
use Rattle.route_verify.proofs.TrackLemmas.{pin-tracked, tracked}
use Rattle.route_verify.proofs.TrackedLines.{elem-among}
use Rattle.route_verify.proofs.EqualLines.{same_elem-is}
use Rattle.route_verify.proofs.DepthLemmas.{deep-are}

-- the greatest is at least each
at-least : (ns : List ℕ) (n : ℕ) → In ns n → n ≤ greatest ns
at-least [] n i = absurd i
at-least (m ∷ ms) n i = elim i [
  | inl e ↦ left m n (greatest ms) e
  | inr later ↦ right m n (greatest ms) (at-least ms n later)
]
  where
    left : (a b c : ℕ) → a ≡ b → b ≤ max a c
    left a b c e = grind (arith, e)

    right : (a b c : ℕ) → b ≤ c → b ≤ max a c
    right a b c h = grind (arith, h)

-- what is made of elements that stand once, differently
apart-made : {A B : Type 0} (f : A → B) (xs : List A)
    → ((x z : A) → In xs x → In xs z → f x ≡ f z → x ≡ z) → IsApart xs → IsApart (map f xs)
apart-made f [] one h = tt
apart-made {A} {B} f (x ∷ xs) one h = (
  (λ y i same. let from = from_In-map f xs y i in
      h.0 from.0 from.1 (one x from.0 (inl refl) (inr from.1) (same ∙ sym from.2))),
  apart-made f xs (λ u v i j. one u v (inr i) (inr j)) h.1,
)

module _ (width reach : ℕ) (p : RoutingProblem) (sound : IsSound p.route) (fits : Fits p)
    (tracks : List ℕ) (legal : IsLegalFor p.arch width p.route tracks)
    (far : trace_depth p.route ≤ reach) where
  abbrev g : GraphOf
  g = graph_of width p

  abbrev all : List Slot
  all = slots p.route

  -- the wires of a net
  abbrev set_of : ℕ → List Wire
  set_of n = map (wire_of all tracks) (slots_in all n)

  module _ (n : ℕ) (net : RouteNet) (here : slice_get p.route.nets n ≡ Some net) where
    abbrev elems : List Elem
    elems = net.elems

    -- the wire of a line
    abbrev wire : Elem → Option Wire
    wire e = elem_wire (tracked all tracks n e)

    elem-fits : (i : ℕ) (e : Elem) → slice_get elems i ≡ Some e
        → IsFitting p (elem_line (take n p.route.nets) net i e)
    elem-fits i e at = fitting p (elem_line (take n p.route.nets) net i e)
        (Fits-line p fits (elem_line (take n p.route.nets) net i e)
        (elem-among p.route.nets n net i e here at))

    sound-net : IsSoundNet p.route.grid net
    sound-net = In-all (IsSoundNet p.route.grid) p.route.nets net sound.nets
        (get-In p.route.nets n net here)

    ordinary : (i : ℕ) (e : Elem) → slice_get elems i ≡ Some e → net.global ≡ false
    ordinary i e at = go net.global refl
      where
        go : (b : Bool) → net.global ≡ b → b ≡ false
        go false is = refl
        go true is = absurd (let clash : None ≡ Some e =
            sym (ap (λ (es : List Elem). slice_get es i) (sound-net.global_elems is)) ∙ at in cc)

    before : (j : ℕ) (a : Elem) → slice_get elems j ≡ Some a
        → last_or None (take (suc j) elems) ≡ Some a
    before j a at = ap (last_or None) (take-get elems j a at) ∙ last-push None (take j elems) a

    in-order : (i : ℕ) (e : Elem) → slice_get elems i ≡ Some e
        → option_map_or (λ (a : Elem). may_follow a.kind e.kind) (last_or None (take i elems))
        (is_source e.kind) ≡ true
    in-order i e at =
        let test : Bool = not (option_map_or (λ (a : Elem). may_follow a.kind e.kind)
        (last_or None (take i elems)) (is_source e.kind)) in
        let rest : Bool = length (drop (suc i) elems) == 0 && not (is_sink e.kind) in
        let both : (test || rest) ≡ false =
        sym (ap (λ (b : Bool). not b && (test || rest)) (ordinary i e at)) ∙
        (elem-fits i e at).order
        in
        not-false _ (or_parts test rest both).0

    follows-on : (j : ℕ) (a e : Elem) → slice_get elems j ≡ Some a
        → slice_get elems (suc j) ≡ Some e → may_follow a.kind e.kind ≡ true
    follows-on j a e at_a at =
        sym (ap (λ (o : Option Elem). option_map_or (λ (b : Elem). may_follow b.kind e.kind) o
        (is_source e.kind)) (before j a at_a)) ∙ in-order (suc j) e at

    first-source : (e : Elem) → slice_get elems 0 ≡ Some e → is_source e.kind ≡ true
    first-source e at = go elems (in-order 0 e at)
      where
        go : (es : List Elem)
            → option_map_or (λ (a : Elem). may_follow a.kind e.kind) (last_or None (take 0 es))
            (is_source e.kind) ≡ true
            → is_source e.kind ≡ true
        go [] h = h
        go (x ∷ xs) h = h

    low : (k : ℕ) (e : Elem) (w : Wire) → slice_get elems k ≡ Some e → wire e ≡ Some w
        → nat_lt w.track width ≡ true
    low k e w at on = not-false _ (sym (ap (λ (o : Option Wire). option_map_or
        (λ (v : Wire). not (nat_lt v.track width)) o false) on)
        ∙ not-past p sound fits width tracks legal n net here k e at)

    module _ (j : ℕ) (a e : Elem) (at_a : slice_get elems j ≡ Some a)
        (at : slice_get elems (suc j) ≡ Some e) where
      abbrev parted : Bool
      parted = are_parted g (wire a) (wire e)

      abbrev missed_first : Bool
      missed_first = misses g (elem_pin (tracked all tracks n a)) (wire e)

      abbrev missed_second : Bool
      missed_second = misses g (elem_pin (tracked all tracks n e)) (wire a)

      parts : ((parted || missed_first) ≡ false) × (missed_second ≡ false)
      parts = or_parts (parted || missed_first) missed_second
          (connected p sound fits width tracks legal n net here j a e at_a at)

      joined : (u w : Wire) → wire a ≡ Some u → wire e ≡ Some w → are_joined g u w ≡ true
      joined u w on_a on =
          let apart : are_parted g (Some u) (Some w) ≡ false =
          sym (λ i. are_parted g (on_a i) (on i)) ∙ (or_parts parted missed_first parts.0).0 in
          not-false (are_joined g u w)
          (sym (λ i. low j a u at_a on_a i && low (suc j) e w at on i && not (are_joined g u w))
          ∙ apart)

      pin-first : (pin : PinAt) (w : Wire) → elem_pin a ≡ Some pin → wire e ≡ Some w
          → Reaches g pin w
      pin-first pin w is on =
          let test : misses g (Some pin) (Some w) ≡ false =
          sym (λ i. misses g ((pin-tracked all tracks n a ∙ is) i) (on i))
          ∙ (or_parts parted missed_first parts.0).1 in
          reaches-is g pin w (not-false (reaches g pin w)
          (sym (λ i. low (suc j) e w at on i && not (reaches g pin w)) ∙ test))

      pin-second : (pin : PinAt) (u : Wire) → elem_pin e ≡ Some pin → wire a ≡ Some u
          → Reaches g pin u
      pin-second pin u is on =
          let test : misses g (Some pin) (Some u) ≡ false =
          sym (λ i. misses g ((pin-tracked all tracks n e ∙ is) i) (on i)) ∙ parts.1 in
          reaches-is g pin u (not-false (reaches g pin u)
          (sym (λ i. low j a u at_a on i && not (reaches g pin u)) ∙ test))

    own : (k : ℕ) (e : Elem) (w : Wire) → slice_get elems k ≡ Some e → wire e ≡ Some w
        → In (set_of n) w
    own k e w at on =
        let s = slot-wire p tracks n net k e w here at on in
        subst (In (set_of n)) s.wire
        (In-map (wire_of all tracks) (slots_in all n) (slot_number all s.slot)
        (in-slots_in all n (slot_number all s.slot) s.within
        (ap (λ (z : Slot). z.net) s.there ∙ slot-net n e s.slot s.is)))

    -- the slot of a channel line
    slot-of : (e : Elem) (cell : Cell) → elem_cell e ≡ Some cell
        → elem_slot n e ≡ Some (record { net = n; cell = cell })
    slot-of e cell is = ap (λ (o : Option Cell). option_map {T = Cell} {U = Slot}
        (λ c. record { net = n; cell = c }) o) is

    channel-cell : (e : Elem) → is_channel e.kind ≡ true → (cell : Cell)
        × (elem_cell e ≡ Some cell)
    channel-cell e channel = let w = channel-wire e channel in go (elem_cell e) refl w.1
      where
        go : (o : Option Cell) → elem_cell e ≡ o → {w : Wire}
            → option_map {T = Cell} {U = Wire} (λ c. record { cell = c; track = e.number }) o
            ≡ Some w → (cell : Cell) × (elem_cell e ≡ Some cell)
        go None is h = cc
        go (Some c) is h = (c, is)

    on-wire-there : (e : Elem) → is_channel e.kind ≡ true → (w : Wire) × (wire e ≡ Some w)
    on-wire-there e channel = let cell = channel-cell e channel in
        (_, track-wire p tracks n e (record { net = n; cell = cell.0 }) (slot-of e cell.0 cell.1))

    equal-there : (e other : Elem) → same_elem e other ≡ true → is_channel e.kind ≡ true
        → (is_channel other.kind ≡ true) × (wire other ≡ wire e)
    equal-there e other same channel =
        let cell = channel-cell e channel in
        let slot : Slot = record { net = n; cell = cell.0 } in (
          ap is_channel (sym (same_elem-is e other same).kind) ∙ channel,
          track-wire p tracks n other slot
              (slot-of other cell.0 (cell-equal e other same ∙ cell.1))
              ∙ sym (track-wire p tracks n e slot (slot-of e cell.0 cell.1)),
        )

    branches : (j : ℕ) (a e : Elem) → slice_get elems j ≡ Some a
        → slice_get elems (suc j) ≡ Some e → is_sink a.kind ≡ true → is_channel e.kind ≡ true
        → list_any (same_elem e) (take (suc j) elems) ≡ true
    branches j a e at_a at sink channel =
        let kinds = channel-kinds e.kind channel in
        let again : Bool = list_any (same_elem e) (take (suc j) elems) in
        not-false again
        (sym ((λ i. not (is_ipin e.kind) && not (is_sink e.kind)
        && option_map_or (λ (b : Elem). is_sink b.kind) (before j a at_a i) false && not again)
        ∙ (λ i. not (kinds.2 i) && not (kinds.3 i) && sink i && not again))
        ∙ (elem-fits (suc j) e at).joined)

    walk : IsWalk g (outs net) (set_of n) same_elem wire elems
    walk = record {
      starts = λ k a b w at_a at_b opin on.
          let sound_line : IsSoundElem p.route.grid a =
          In-all (IsSoundElem p.route.grid) elems a sound-net.elems (get-In elems k a at_a) in
          let pin = labelled-pin a (ap is_pin (opin-is a.kind opin)) sound_line.label in
          let is : opin_of a ≡ Some pin.0 =
          (λ i. if opin i then elem_pin a else None) ∙ pin.1 in
          any-from_In (λ out. Reaches g out w) (outs net) pin.0
          (subst (λ (b : Bool). In (if b then [] else filter_map opin_of elems) pin.0)
          (sym (ordinary k a at_a))
          (In-filter_map opin_of elems a pin.0 (get-In elems k a at_a) is))
          (pin-first k a b at_a at_b pin.0 w pin.1 on);
      joins = λ k a b u w at_a at_b on_a on_b.
          joins-is g u w (joined k a b at_a at_b u w on_a on_b);
      own = own;
      follows = goes;
      on_wire = λ k e at channel. on-wire-there e channel;
      equal = equal-there;
    }
      where
        goes : (k : ℕ) (e : Elem) → slice_get elems k ≡ Some e → is_channel e.kind ≡ true
            → (j : ℕ) × (k ≡ suc j) × (a : Elem) × (slice_get elems j ≡ Some a)
            × (Before (is_opin a.kind ≡ true) (is_channel a.kind ≡ true)
            ((is_sink a.kind ≡ true) × (list_any (same_elem e) (take k elems) ≡ true)))
        goes zero e at channel = absurd (channel-no_source e.kind (first-source e at) channel)
        goes (suc j) e at channel =
            let a = get-before elems j e at in (
              j,
              refl,
              a.0,
              a.1,
              by a.0 a.1 (before-channel a.0.kind e.kind (follows-on j a.0 e a.1 at) channel),
            )
          where
            by : (a : Elem) → slice_get elems j ≡ Some a
                → Before (is_opin a.kind ≡ true) (is_channel a.kind ≡ true) (is_sink a.kind ≡ true)
                → Before (is_opin a.kind ≡ true) (is_channel a.kind ≡ true)
                ((is_sink a.kind ≡ true) × (list_any (same_elem e) (take (suc j) elems) ≡ true))
            by a at_a (by_opin h) = by_opin h
            by a at_a (by_channel h) = by_channel h
            by a at_a (by_sink h) = by_sink (h, branches j a e at_a at h channel)

    -- a sink of the net is reached
    sink-reached : (pin : PinAt) → In (ins net) pin → IsReached g reach (outs net) (set_of n) pin
    sink-reached pin i = go net.global refl i
      where
        at : (j : ℕ) {x : Elem} → slice_get elems j ≡ Some x → is_ipin x.kind ≡ true
            → elem_pin x ≡ Some pin → IsReached g reach (outs net) (set_of n) pin
        at zero {x} at_x ipin has =
            absurd (false≢true (sym (no-source x.kind (first-source x at_x)).0 ∙ ipin))
        at (suc i) {x} at_x ipin has =
            let c = get-before elems i x at_x in
            let channel = before-ipin c.0.kind x.kind (follows-on i c.0 x c.1 at_x) ipin in
            let w = on-wire-there c.0 channel in
            let whole : take (length elems) elems ≡ elems = take-length elems in
            let line = from_In-map (λ (l : DeepLine). l.elem) (deep_lines same_elem elems) c.0
            (subst (λ (es : List Elem). In es c.0) (sym (deep-are same_elem elems))
            (get-In elems i c.0 c.1)) in
            let far_line = deep g (outs net) (set_of n) same_elem wire elems walk (length elems)
            line.0 (subst (λ (es : List Elem). In (deep_lines same_elem es) line.0) (sym whole)
            line.1) (ap (λ (e : Elem). is_channel e.kind) line.2 ∙ channel) w.0
            (ap wire line.2 ∙ w.1) in
            let among : In (flat_map net_depths p.route.nets) far_line.depth =
            In-flat_map net_depths p.route.nets net far_line.depth (get-In p.route.nets n net here)
            (In-filter_map (λ (l : DeepLine). l.depth) (deep_lines same_elem elems) line.0
            far_line.depth line.1 far_line.is) in
            let short : far_line.depth ≤ trace_depth p.route =
            at-least (flat_map net_depths p.route.nets) far_line.depth among in
            let reached = led-reached g (outs net) (set_of n) w.0 far_line.depth pin far_line.led
            (pin-second i c.0 x c.1 at_x pin w.0 has w.1) in
            record {
              wires = reached.wires;
              few = omega (arith, reached.few, short, far);
              own = reached.own;
              joined = reached.joined;
              first = reached.first;
              first_is = reached.first_is;
              begins = reached.begins;
              last = reached.last;
              last_is = reached.last_is;
              ends = reached.ends;
            }

        go : (b : Bool) → net.global ≡ b
            → In (if b then [] else filter_map sink_pin (adjacent elems)) pin
            → IsReached g reach (outs net) (set_of n) pin
        go true global among = absurd among
        go false global among =
            let end = ending elems pin among in at end.place end.at end.is_ipin end.has

    wired : IsWiredNet g reach net (set_of n)
    wired = record {
      once = all_pairs-apart (set_of n)
          (apart-made (wire_of all tracks) (slots_in all n)
          (λ a b i j same.
          let at_a = from-slots_in all n a i in
          let at_b = from-slots_in all n b j in
          let cells : (slot_at all a).cell ≡ (slot_at all b).cell =
          ap (λ (w : Wire). w.cell) same in
          let nets : (slot_at all a).net ≡ (slot_at all b).net = at_a.1 ∙ sym at_b.1 in
          one-slot p.route a b at_a.0 at_b.0 (λ k. record { net = nets k; cell = cells k }))
          (apart-filter (λ s. (slot_at all s).net == n) (below (length all))
          (apart-range 0 (length all))));
      on_trace = all-from_In (λ (w : Wire). Contains (filter_map elem_cell elems) w.cell)
          (set_of n) (λ w i.
          let made = from_In-map (wire_of all tracks) (slots_in all n) w i in
          let slot = from-slots_in all n made.0 made.1 in
          let line = slot-on_trace p.route made.0 slot.0 in
          let one : line.0 ≡ net =
          some_is (sym line.1 ∙ ap (slice_get p.route.nets) slot.1 ∙ here) in
          subst (λ (m : RouteNet). Contains (filter_map elem_cell m.elems) w.cell) one
          (subst (Contains (filter_map elem_cell line.0.elems)) (ap (λ (v : Wire). v.cell) made.2)
          line.2));
      within = all-from_In (λ (w : Wire). w.track < width) (set_of n) (λ w i.
          let made = from_In-map (wire_of all tracks) (slots_in all n) w i in
          let slot = from-slots_in all n made.0 made.1 in
          subst (λ (v : Wire). v.track < width) made.2
          (legal.within made.0 0 (omega (arith, slot.0, legal.each))));
      reached = all-from_In (IsReached g reach (outs net) (set_of n)) (ins net) sink-reached;
    }

  pub tracks-legal : IsReachLegal width reach p (slot_wires p tracks)
  tracks-legal = record {
    each = length-map-range_with_len set_of 0 (length p.route.nets);
    wired = λ n net set here is.
        subst (IsWiredNet g reach net) (made-below set_of (length p.route.nets) n set is)
        (wired n net here);
    apart = λ m n first second w differ is_first is_second i j.
        let a = from_In-map (wire_of all tracks) (slots_in all m) w
        (subst (λ (s : List Wire). In s w)
        (sym (made-below set_of (length p.route.nets) m first is_first)) (In-contains first w i)) in
        let b = from_In-map (wire_of all tracks) (slots_in all n) w
        (subst (λ (s : List Wire). In s w)
        (sym (made-below set_of (length p.route.nets) n second is_second)) (In-contains second w j))
        in
        let at_a = from-slots_in all m a.0 a.1 in
        let at_b = from-slots_in all n b.0 b.1 in
        legal.apart a.0 b.0 at_a.0 at_b.0 (λ e. differ (sym at_a.1 ∙ e ∙ at_b.1))
        (ap (λ (v : Wire). v.cell) (a.2 ∙ sym b.2)) (ap (λ (v : Wire). v.track) (a.2 ∙ sym b.2));
  }

pub tracks-say-reached : (width reach : ℕ) (p : RoutingProblem) → IsSound p.route → Fits p
    → TracksSayReached width reach p
tracks-say-reached width reach p sound fits tracks legal far =
    tracks-legal width reach p sound fits tracks legal far

-- so where there is no routing within such a reach, there is no legal routing
pub reach-covers-strict : (width reach : ℕ) (p : RoutingProblem) → IsSound p.route → Fits p
    → ReachCoversStrict width reach p
reach-covers-strict width reach p sound fits far none tracks legal =
    none (slot_wires p tracks) (tracks-say-reached width reach p sound fits tracks legal far)

-- The nets of a route that counts within a reach: what stands next to each other is joined, and
-- each channel line goes on from an OPIN, a channel line or an equal line.
use Rattle.std.proofs.Common.{◌≡◌, ℕ, zero, suc, Bool, true, false, Option, Some, None, List, [], ◌∷◌, take, refl, sym, ap, subst, ◌∙◌}
use Rattle.std.specs.Prelude.{◌&&◌, ◌||◌, ◌==◌, nat_lt, not, IsTrue, filter_map, slice_get, if◌then◌else◌}
use Rattle.std.specs.List.{last_or, list_any}
use Rattle.std.specs.Option.{option_map_or}
use Rattle.std.proofs.lemmas.Bool.{eqb-true, false≢true, not-false, or_parts}
use Rattle.list_laws.proofs.Members.{In, In-all, In-filter_map, In-list_any, any-from_In, list_any-from_In}
use Rattle.list_laws.proofs.Places.{In-place, get-In, get-before, get-take, last-push, take-get}
use Rattle.fpga_graph.specs.GraphOf.{GraphOf}
use Rattle.fpga_graph.specs.Wires.{Reaches}
use Rattle.fpga_types.specs.Fabric.{same_cell}
use Rattle.fpga_types.specs.Fit.{RouteLine, is_branch, is_out_of_order, same_elem}
use Rattle.fpga_types.specs.Fits.{is_other_pin, is_other_sink, is_other_source, is_repeated, is_unknown}
use Rattle.fpga_types.specs.Kinds.{is_channel, is_opin, is_pin, is_sink, is_source, may_follow, same_label}
use Rattle.fpga_types.specs.Problem.{RoutingProblem}
use Rattle.fpga_types.specs.Slots.{elem_pin}
use Rattle.fpga_types.specs.Sound.{IsSound, IsSoundElem, IsSoundNet}
use Rattle.fpga_types.specs.declared.grid.PinAt.{PinAt}
use Rattle.fpga_types.specs.declared.grid.Wire.{Wire}
use Rattle.fpga_types.specs.declared.route.Elem.{Elem}
use Rattle.fpga_types.specs.declared.route.ElemKind.{ElemKind}
use Rattle.fpga_types.specs.declared.route.ElemKind.TheVariants.{Source, Opin, ChanX, ChanY, Ipin, Sink}
use Rattle.fpga_types.specs.declared.route.Label.TheVariants.{Track}
use Rattle.fpga_types.specs.declared.route.RouteNet.{RouteNet}
use Rattle.fpga_types.specs.declared.route.RouteText.{RouteText}
use Rattle.fpga_types.proofs.MeetingLemmas.{both_true, same_cell-is}
use Rattle.fpga_bounds.proofs.LineLemmas.{elem_line}
use Rattle.route_reach.specs.Ends.{opin_of, outs}
use Rattle.route_reach.specs.Good.{IsReachRoute, IsRoutedNet, is_labelled, is_pin_among}
use Rattle.route_reach.specs.Reach.{IsJoint}
use Rattle.route_reach.specs.Trees.{wires_of}
use Rattle.route_reach.proofs.DeepLemmas.{Before, IsWalk, by_channel, by_opin, by_sink}
use Rattle.route_reach.proofs.ElemLemmas.{In-first_seen, channel-wire, labelled-pin, on-wire, pin-equal, tracked-equal, wire-equal}
use Rattle.route_reach.proofs.LineFacts.{channel-kinds}
use Rattle.route_reach.proofs.QuietLines.{IsQuiet, quiet-lines}
use Rattle.route_reach.proofs.Wires.{joins-is, reaches-is}
use Rattle.route_verify.specs.Depths.{same_tracked}
use Rattle.route_verify.specs.Judged.{graph_of}
use Rattle.route_verify.specs.Lines.{JudgedLine, branches_loose, device_in, has_wire, is_again, is_on_wire, is_other_again, is_sink_again, is_unfit, judged_line}
use Rattle.route_verify.specs.Reach.{reach_line}
use Rattle.route_verify.specs.Wiring.{are_joined, are_parted, are_unconnected, elem_wire, misses, reaches, same_wire}
use Rattle.route_verify.proofs.TrackedLines.{elem-among}
use Rattle.route_verify.proofs.EqualLines.{same_elem-is, same_label-is}

-- the codes of the fit of a line at which none holds
pub record IsFitLine (g : GraphOf) (at : JudgedLine) : Type 0 where
  pub order : is_out_of_order at.fit.route ≡ false
  pub loose : branches_loose at ≡ false
  pub other : is_other_again at.fit.route ≡ false
  pub pin : is_other_pin (device_in g) at.fit ≡ false
  pub again : is_sink_again at.fit.route ≡ false
  pub sink : is_other_sink at.fit ≡ false
  pub source : is_other_source at.fit ≡ false

pub fit-line : (g : GraphOf) (at : JudgedLine) → is_unfit g at ≡ false → IsFitLine g at
fit-line g at h =
    let a : Bool = is_unknown at.fit in
    let b : Bool = is_repeated at.fit in
    let c : Bool = is_other_source at.fit in
    let d : Bool = is_other_sink at.fit in
    let e : Bool = is_sink_again at.fit.route in
    let f : Bool = is_other_pin (device_in g) at.fit in
    let i : Bool = is_other_again at.fit.route in
    let j : Bool = branches_loose at in
    let k : Bool = at.fit.route.taken in
    let l : Bool = is_out_of_order at.fit.route in
    let p9 = or_parts (a || b || c || d || e || f || i || j || k) l h in
    let p8 = or_parts (a || b || c || d || e || f || i || j) k p9.0 in
    let p7 = or_parts (a || b || c || d || e || f || i) j p8.0 in
    let p6 = or_parts (a || b || c || d || e || f) i p7.0 in
    let p5 = or_parts (a || b || c || d || e) f p6.0 in
    let p4 = or_parts (a || b || c || d) e p5.0 in
    let p3 = or_parts (a || b || c) d p4.0 in
    let p2 = or_parts (a || b) c p3.0 in
    record {
      order = p9.1;
      loose = p7.1;
      other = p6.1;
      pin = p5.1;
      again = p4.1;
      sink = p3.1;
      source = p2.1;
    }

-- what may stand before a channel line
pub before-channel : (k m : ElemKind) → may_follow k m ≡ true → is_channel m ≡ true
    → Before (is_opin k ≡ true) (is_channel k ≡ true) (is_sink k ≡ true)
before-channel Opin m h is = by_opin refl
before-channel ChanX m h is = by_channel refl
before-channel ChanY m h is = by_channel refl
before-channel Sink m h is = by_sink refl
before-channel Source ChanX h is = absurd (false≢true h)
before-channel Source ChanY h is = absurd (false≢true h)
before-channel Ipin ChanX h is = absurd (false≢true h)
before-channel Ipin ChanY h is = absurd (false≢true h)
before-channel Source m h is = absurd (false≢true is)
before-channel Ipin m h is = absurd (false≢true is)

pub channel-no_source : (k : ElemKind) → is_source k ≡ true → is_channel k ≡ true → ⊥
channel-no_source Source h is = false≢true is
channel-no_source k h is = false≢true h

pub opin-is : (k : ElemKind) → is_opin k ≡ true → k ≡ Opin
opin-is Opin h = refl
opin-is k h = absurd (false≢true h)

pub pin-other : (k : ElemKind) → is_pin k ≡ true → is_channel k ≡ false
pin-other Opin is = refl
pin-other Ipin is = refl
pin-other k is = absurd (false≢true is)

-- they are one wire
pub same_wire-is : (u v : Wire) → same_wire u v ≡ true → u ≡ v
same_wire-is u v h =
    let both = both_true (same_cell u.cell v.cell) (u.track == v.track) h in
    let cells = same_cell-is u.cell v.cell both.0 in
    let tracks = eqb-true u.track v.track both.1 in
    λ i. record { cell = cells i; track = tracks i }

pub on-line : (w : Wire) (e : Elem) → is_on_wire w e ≡ true → elem_wire e ≡ Some w
on-line w e h = go (elem_wire e) refl h
  where
    go : (o : Option Wire) → elem_wire e ≡ o → option_map_or (same_wire w) o false ≡ true
        → elem_wire e ≡ Some w
    go None is g = absurd (false≢true g)
    go (Some v) is g = is ∙ ap (λ (u : Wire). Some u) (sym (same_wire-is w v g))

module _ (width reach : ℕ) (p : RoutingProblem) (sound : IsSound p.route) (found : RouteText)
    (good : IsReachRoute width reach p found) (n : ℕ) (net other : RouteNet)
    (here : slice_get p.route.nets n ≡ Some net) (there : slice_get found.nets n ≡ Some other)
  where
    abbrev g : GraphOf
    g = graph_of width p

    abbrev elems : List Elem
    elems = other.elems

    pub routed : IsRoutedNet net other
    routed = good.nets n net other here there

    sound-net : IsSoundNet p.route.grid net
    sound-net = In-all (IsSoundNet p.route.grid) p.route.nets net sound.nets
        (get-In p.route.nets n net here)

    abbrev pub line : ℕ → Elem → RouteLine
    line i e = elem_line (take n found.nets) other i e

    abbrev at_line : ℕ → Elem → JudgedLine
    at_line i e = judged_line p (line i e)

    pub quiet : (i : ℕ) (e : Elem) → slice_get elems i ≡ Some e
        → IsQuiet g reach (reach_line p (line i e))
    quiet i e at = quiet-lines width reach p found good.legal (line i e)
        (elem-among found.nets n other i e there at)

    pub fits-at : (i : ℕ) (e : Elem) → slice_get elems i ≡ Some e → IsFitLine g (at_line i e)
    fits-at i e at = fit-line g (at_line i e) (quiet i e at).fitting

    -- a net with an element is not global
    pub ordinary : (i : ℕ) (e : Elem) → slice_get elems i ≡ Some e → net.global ≡ false
    ordinary i e at = go net.global refl
      where
        go : (b : Bool) → net.global ≡ b → b ≡ false
        go false is = refl
        go true is =
            let none : elems ≡ [] = routed.elems is ∙ sound-net.global_elems is in
            absurd (let clash : None ≡ Some e = sym (ap (λ (es : List Elem). slice_get es i) none)
            ∙ at in cc)

    -- the line before one
    pub previous : (j : ℕ) (a : Elem) → slice_get elems j ≡ Some a
        → last_or None (take (suc j) elems) ≡ Some a
    previous j a at = ap (last_or None) (take-get elems j a at) ∙ last-push None (take j elems) a

    -- each line may stand where it does
    in-order : (i : ℕ) (e : Elem) → slice_get elems i ≡ Some e
        → option_map_or (λ (a : Elem). may_follow a.kind e.kind) (last_or None (take i elems))
        (is_source e.kind) ≡ true
    in-order i e at =
        let global : other.global ≡ false = routed.global ∙ ordinary i e at in
        let test : Bool = not (option_map_or (λ (a : Elem). may_follow a.kind e.kind)
        (last_or None (take i elems)) (is_source e.kind)) in
        let rest : Bool = (at_line i e).fit.route.last && not (is_sink e.kind) in
        let both : (test || rest) ≡ false =
        sym (ap (λ (b : Bool). not b && (test || rest)) global) ∙ (fits-at i e at).order in
        not-false _ (or_parts test rest both).0

    pub may-follow : (j : ℕ) (a e : Elem) → slice_get elems j ≡ Some a
        → slice_get elems (suc j) ≡ Some e → may_follow a.kind e.kind ≡ true
    may-follow j a e at_a at =
        sym (ap (λ (o : Option Elem). option_map_or (λ (b : Elem). may_follow b.kind e.kind) o
        (is_source e.kind)) (previous j a at_a)) ∙ in-order (suc j) e at

    pub first-source : (e : Elem) → slice_get elems 0 ≡ Some e → is_source e.kind ≡ true
    first-source e at = go elems (in-order 0 e at)
      where
        go : (es : List Elem)
            → option_map_or (λ (a : Elem). may_follow a.kind e.kind) (last_or None (take 0 es))
            (is_source e.kind) ≡ true
            → is_source e.kind ≡ true
        go [] h = h
        go (x ∷ xs) h = h

    -- a wire is of a track below the width
    pub low : (k : ℕ) (e : Elem) (w : Wire) → slice_get elems k ≡ Some e → elem_wire e ≡ Some w
        → nat_lt w.track width ≡ true
    low k e w at on = not-false _ (sym (ap (λ (o : Option Wire). option_map_or
        (λ (wire : Wire). not (nat_lt wire.track width)) o false) on) ∙ (quiet k e at).low)

    module _ (j : ℕ) (a e : Elem) (at_a : slice_get elems j ≡ Some a)
        (at : slice_get elems (suc j) ≡ Some e) where
      abbrev parted : Bool
      parted = are_parted g (elem_wire a) (elem_wire e)

      abbrev missed_first : Bool
      missed_first = misses g (elem_pin a) (elem_wire e)

      abbrev missed_second : Bool
      missed_second = misses g (elem_pin e) (elem_wire a)

      connected : (parted || missed_first || missed_second) ≡ false
      connected = sym (ap (λ (o : Option Elem). are_unconnected g o (Some e)) (previous j a at_a))
          ∙ (quiet (suc j) e at).connected

      parts : ((parted || missed_first) ≡ false) × (missed_second ≡ false)
      parts = or_parts (parted || missed_first) missed_second connected

      pub joined : (u w : Wire) → elem_wire a ≡ Some u → elem_wire e ≡ Some w → IsJoint g (u, w)
      joined u w on_a on =
          let apart : are_parted g (Some u) (Some w) ≡ false =
          sym (λ i. are_parted g (on_a i) (on i)) ∙ (or_parts parted missed_first parts.0).0 in
          joins-is g u w
          (not-false (are_joined g u w)
          (sym (λ i. low j a u at_a on_a i && low (suc j) e w at on i && not (are_joined g u w))
          ∙ apart))

      pub pin-first : (pin : PinAt) (w : Wire) → elem_pin a ≡ Some pin → elem_wire e ≡ Some w
          → Reaches g pin w
      pin-first pin w is on =
          let test : misses g (Some pin) (Some w) ≡ false =
          sym (λ i. misses g (is i) (on i)) ∙ (or_parts parted missed_first parts.0).1 in
          reaches-is g pin w (not-false (reaches g pin w)
          (sym (λ i. low (suc j) e w at on i && not (reaches g pin w)) ∙ test))

      pub pin-second : (pin : PinAt) (u : Wire) → elem_pin e ≡ Some pin → elem_wire a ≡ Some u
          → Reaches g pin u
      pin-second pin u is on =
          let test : misses g (Some pin) (Some u) ≡ false =
          sym (λ i. misses g (is i) (on i)) ∙ parts.1 in
          reaches-is g pin u (not-false (reaches g pin u)
          (sym (λ i. low j a u at_a on i && not (reaches g pin u)) ∙ test))

    -- a pin line equals one of the net's in the global route
    pub pin-there : (k : ℕ) (e : Elem) → slice_get elems k ≡ Some e → is_pin e.kind ≡ true
        → (line : Elem) × In net.elems line × (same_elem e line ≡ true)
    pin-there k e at is =
        In-list_any (same_elem e) net.elems
        (go (is_pin e.kind) is (In-all (λ d. IsTrue (is_pin_among net.elems d)) elems e routed.pins
        (get-In elems k e at)))
      where
        go : (b : Bool) → b ≡ true → (not b || list_any (same_elem e) net.elems) ≡ true
            → list_any (same_elem e) net.elems ≡ true
        go true i h = h
        go false i h = absurd (false≢true i)

    -- and has its pin
    pub pin-of-line : (k : ℕ) (e : Elem) → slice_get elems k ≡ Some e → is_pin e.kind ≡ true
        → (pin : PinAt) × (elem_pin e ≡ Some pin) × (line : Elem) × In net.elems line
        × (line.kind ≡ e.kind) × (elem_pin line ≡ Some pin)
    pin-of-line k e at is =
        let line = pin-there k e at is in
        let same = same_elem-is e line.0 line.2 in
        let sound_line : IsSoundElem p.route.grid line.0 =
        In-all (IsSoundElem p.route.grid) net.elems line.0 sound-net.elems line.1 in
        let pin = labelled-pin line.0 (ap is_pin (sym same.kind) ∙ is) sound_line.label in (
          pin.0,
          sym (pin-equal e line.0 line.2 (pin-other e.kind is)) ∙ pin.1,
          line.0,
          line.1,
          sym same.kind,
          pin.1,
        )

    -- a channel line has the label of one
    label-of : (e : Elem) → In elems e → is_channel e.kind ≡ true → e.label ≡ Track
    label-of e i is = go (is_channel e.kind) is
        (In-all (λ d. IsTrue (is_labelled d)) elems e routed.labels i)
      where
        go : (b : Bool) → b ≡ true → (not b || same_label e.label Track) ≡ true → e.label ≡ Track
        go true c h = same_label-is e.label Track h
        go false c h = absurd (false≢true c)

    -- a channel line behind a SINK equals one before it
    branches : (j : ℕ) (a e : Elem) → slice_get elems j ≡ Some a → slice_get elems (suc j) ≡ Some e
        → is_sink a.kind ≡ true → is_channel e.kind ≡ true
        → list_any (same_tracked e) (take (suc j) elems) ≡ true
    branches j a e at_a at sink channel =
        let w = channel-wire e channel in
        let kinds = channel-kinds e.kind channel in
        let branch : is_branch (at_line (suc j) e).fit.route ≡ true =
        ap (λ (o : Option Elem). option_map_or (λ (b : Elem). is_sink b.kind) o false)
        (previous j a at_a) ∙ sink in
        let loose : not (is_again (at_line (suc j) e) e) ≡ false =
        sym (λ i. not (kinds.2 i) && not (kinds.3 i) && branch i
        && not (is_again (at_line (suc j) e) e)) ∙ (fits-at (suc j) e at).loose in
        let again = both_true (at_line (suc j) e).fit.route.again
        (not (is_channel e.kind) || (at_line (suc j) e).wire_again)
        (not-false (is_again (at_line (suc j) e) e) loose) in
        let wire_again : (at_line (suc j) e).wire_again ≡ true =
        sym (ap (λ (b : Bool). not b || (at_line (suc j) e).wire_again) channel) ∙ again.1 in
        let has : has_wire (take (suc j) elems) w.0 ≡ true =
        sym (ap (λ (o : Option Wire). option_map_or (has_wire (take (suc j) elems)) o false) w.1)
        ∙ wire_again in
        let any = In-list_any (is_on_wire w.0) (take (suc j) elems) has in
        let on = on-line w.0 any.0 any.2 in
        let place = In-place (take (suc j) elems) any.0 any.1 in
        let earlier : In elems any.0 =
        get-In elems place.0 any.0 (get-take elems (suc j) place.0 any.0 place.1).1 in
        list_any-from_In (same_tracked e) (take (suc j) elems) any.0 any.1
        (wire-equal e any.0 w.0 w.1 on (label-of e (get-In elems (suc j) e at) channel)
        (label-of any.0 earlier (on-wire any.0 w.0 on).channel))

    pub own : (k : ℕ) (e : Elem) (w : Wire) → slice_get elems k ≡ Some e → elem_wire e ≡ Some w
        → In (wires_of other) w
    own k e w at on = In-first_seen same_wire same_wire-is (filter_map elem_wire elems) w
        (In-filter_map elem_wire elems e w (get-In elems k e at) on)

    pub walk : IsWalk g (outs net) (wires_of other) same_tracked elem_wire elems
    walk = record {
      starts = λ k a b w at_a at_b opin on.
          let pin = pin-of-line k a at_a (ap is_pin (opin-is a.kind opin)) in
          let global = ordinary k a at_a in
          let is : opin_of pin.2 ≡ Some pin.0 =
          (λ i. if (ap is_opin pin.4 ∙ opin) i then elem_pin pin.2 else None) ∙ pin.5 in
          any-from_In (λ out. Reaches g out w) (outs net) pin.0
          (subst (λ (b : Bool). In (if b then [] else filter_map opin_of net.elems) pin.0)
          (sym global) (In-filter_map opin_of net.elems pin.2 pin.0 pin.3 is))
          (pin-first k a b at_a at_b pin.0 w pin.1 on);
      joins = λ k a b u w at_a at_b on_a on_b. joined k a b at_a at_b u w on_a on_b;
      own = own;
      follows = λ k e at channel. goes k e at channel;
      on_wire = λ k e at channel. channel-wire e channel;
      equal = tracked-equal;
    }
      where
        goes : (k : ℕ) (e : Elem) → slice_get elems k ≡ Some e → is_channel e.kind ≡ true
            → (j : ℕ) × (k ≡ suc j) × (a : Elem) × (slice_get elems j ≡ Some a)
            × (Before (is_opin a.kind ≡ true) (is_channel a.kind ≡ true)
            ((is_sink a.kind ≡ true) × (list_any (same_tracked e) (take k elems) ≡ true)))
        goes zero e at channel = absurd (channel-no_source e.kind (first-source e at) channel)
        goes (suc j) e at channel =
            let a = get-before elems j e at in (
              j,
              refl,
              a.0,
              a.1,
              by a.0 a.1 (before-channel a.0.kind e.kind (may-follow j a.0 e a.1 at) channel),
            )
          where
            by : (a : Elem) → slice_get elems j ≡ Some a
                → Before (is_opin a.kind ≡ true) (is_channel a.kind ≡ true) (is_sink a.kind ≡ true)
                → Before (is_opin a.kind ≡ true) (is_channel a.kind ≡ true)
                ((is_sink a.kind ≡ true) × (list_any (same_tracked e) (take (suc j) elems) ≡ true))
            by a at_a (by_opin h) = by_opin h
            by a at_a (by_channel h) = by_channel h
            by a at_a (by_sink h) = by_sink (h, branches j a e at_a at h channel)

-- No more joins lead to a channel line of a problem that fits than there are slots.
use Rattle.std.proofs.Common.{◌≡◌, ℕ, zero, suc, ◌+◌, ◌<◌, ◌≤◌, Bool, true, false, cond, Option, Some, None, List, [], ◌∷◌, ◌++◌, length, take, refl, sym, ap, subst, ◌∙◌, inl, inr, arith, length-append}
use Rattle.std.specs.Prelude.{◌&&◌, ◌||◌, ◌==◌, max, not, filter_map, flat_map, find, slice_get, option_map, option_and_then, if◌then◌else◌}
use Rattle.std.specs.List.{last_or, list_any}
use Rattle.std.specs.Option.{option_map_or}
use Rattle.std.proofs.Math.Seq.{take-length}
use Rattle.std.proofs.lemmas.Bool.{false≢true}
use Rattle.list_laws.proofs.Members.{In, In-all, In-append_cases, find-In, from_In-filter_map, list_any-from_In}
use Rattle.list_laws.proofs.Places.{In-place, get-In, get-last, get-take, last-changed, some_is, take-get}
use Rattle.fpga_bounds.specs.NetFit.{slots_so_far, with_elem}
use Rattle.fpga_bounds.specs.SlotTable.{with_slot}
use Rattle.fpga_bounds.proofs.LineLemmas.{elem_line}
use Rattle.fpga_bounds.proofs.SlotLines.{slot-line, slot-net}
use Rattle.fpga_bounds.proofs.SlotsOfLemmas.{slots-start, slots-step}
use Rattle.fpga_types.specs.Fit.{same_elem, same_place}
use Rattle.fpga_types.specs.Fits.{Fits}
use Rattle.fpga_types.specs.Kinds.{is_channel, is_opin, is_sink, same_kind, takes}
use Rattle.fpga_types.specs.Problem.{RoutingProblem}
use Rattle.fpga_types.specs.Slots.{channel_at, elem_cell, elem_slot, same_slot, slots, slots_of}
use Rattle.fpga_types.specs.Sound.{IsSound, IsSoundElem, IsSoundNet}
use Rattle.fpga_types.specs.declared.grid.Cell.{Cell}
use Rattle.fpga_types.specs.declared.grid.Wire.{Wire}
use Rattle.fpga_types.specs.declared.problem.Slot.{Slot}
use Rattle.fpga_types.specs.declared.route.Elem.{Elem}
use Rattle.fpga_types.specs.declared.route.ElemKind.{ElemKind}
use Rattle.fpga_types.specs.declared.route.ElemKind.TheVariants.{Source, Opin, ChanX, ChanY, Ipin, Sink}
use Rattle.fpga_types.specs.declared.route.Label.{Label}
use Rattle.fpga_types.specs.declared.route.Label.TheVariants.{Track}
use Rattle.fpga_types.specs.declared.route.RouteNet.{RouteNet}
use Rattle.fpga_types.proofs.FitsLemmas.{Fits-line}
use Rattle.fpga_types.proofs.MeetingLemmas.{both_true}
use Rattle.route_reach.specs.TraceDepth.{greatest, net_depths, trace_depth}
use Rattle.route_reach.proofs.DeepLemmas.{take-none}
use Rattle.route_reach.proofs.ElemLemmas.{channel-wire, on-wire, wire-equal}
use Rattle.route_reach.proofs.GreatestLemmas.{greatest-net}
use Rattle.route_reach.proofs.LineFacts.{channel-kinds}
use Rattle.route_verify.specs.Depths.{DeepLine, deep_line, deep_lines, depth_after, depth_behind}
use Rattle.route_verify.proofs.DepthLemmas.{AreBelow, deep-are, deep-push, found-below, last-In, one-more}
use Rattle.route_verify.proofs.FittingLine.{fitting}
use Rattle.route_verify.proofs.TrackedLines.{elem-among}

-- one slot more, or none
more-slots : (all : List Slot) (o : Option Slot)
    → length all ≤ length (option_map_or (with_slot all) o all)
more-slots all None = omega arith
more-slots all (Some s) = go (list_any (same_slot s) all)
  where
    go : (b : Bool) → length all ≤ length (cond b all (all ++ s ∷ []))
    go true = omega arith
    go false = omega (arith, length-append all (s ∷ []))

-- behind a slot there is one
some-slot : (all : List Slot) (s : Slot) → 0 < length (with_slot all s)
some-slot [] s = omega arith
some-slot (a ∷ all) s = let more = more-slots (a ∷ all) (Some s) in omega (arith, more)

new-slot : (all : List Slot) (s : Slot) → list_any (same_slot s) all ≡ false
    → length (with_slot all s) ≡ length all + 1
new-slot all s none = rw none (length-append all (s ∷ []))

-- a channel line has a slot, and two with one slot are equal, where both are labelled as such
channel-slot : (n : ℕ) (e : Elem) → is_channel e.kind ≡ true → (s : Slot) × (elem_slot n e ≡ Some s)
channel-slot n e is =
    let w = channel-wire e is in
    let cell = (on-wire e w.0 w.1).cell in (
      record { net = n; cell = w.0.cell },
      ap (option_map (λ (c : Cell). record { net = n; cell = c })) cell,
    )

slot-cell : (n : ℕ) (e : Elem) (s : Slot) → elem_slot n e ≡ Some s → elem_cell e ≡ Some s.cell
slot-cell n e s h = go (elem_cell e) h
  where
    go : (o : Option Cell)
        → option_map {T = Cell} {U = Slot} (λ c. record { net = n; cell = c }) o ≡ Some s
        → o ≡ Some s.cell
    go None g = cc
    go (Some c) g = ap (λ (t : Slot). Some t.cell) (some_is g)

channel-of : (e : Elem) (c : Cell) → elem_cell e ≡ Some c → is_channel e.kind ≡ true
channel-of e c h = go e.kind h
  where
    go : (kind : ElemKind) → channel_at kind e.x e.y ≡ Some c → is_channel kind ≡ true
    go ChanX g = refl
    go ChanY g = refl
    go Source g = cc
    go Opin g = cc
    go Ipin g = cc
    go Sink g = cc

-- two channel lines in one cell, labelled as such, are equal
cell-same : (e other : Elem) (c : Cell) → elem_cell e ≡ Some c → elem_cell other ≡ Some c
    → e.label ≡ Track → other.label ≡ Track → same_elem e other ≡ true
cell-same e other c h g label labels =
    let w : Wire = record { cell = c; track = 0 } in
    let same = (both_true _ _ (wire-equal (record e { number = 0 }) (record other { number = 0 }) w
    (ap (option_map (λ (d : Cell). record { cell = d; track = 0 })) h)
    (ap (option_map (λ (d : Cell). record { cell = d; track = 0 })) g) label labels)).0 in
    let parts = both_true (same_kind e.kind other.kind && same_place e other)
    (is_channel e.kind || 0 == 0) same in
    let is : is_channel e.kind ≡ true = channel-of e c h in
    (λ i. parts.0 i && (is i || e.number == other.number))

module _ (p : RoutingProblem) (sound : IsSound p.route) (fits : Fits p) (n : ℕ) (net : RouteNet)
    (here : slice_get p.route.nets n ≡ Some net) where
  abbrev earlier : List RouteNet
  earlier = take n p.route.nets

  abbrev so_far : ℕ → List Slot
  so_far k = slots_so_far earlier net k

  labelled : (e : Elem) → In net.elems e → is_channel e.kind ≡ true → e.label ≡ Track
  labelled e i is =
      let line : IsSoundElem p.route.grid e = In-all (IsSoundElem p.route.grid) net.elems e
      (In-all (IsSoundNet p.route.grid) p.route.nets net sound.nets
      (get-In p.route.nets n net here)).elems i in
      go e.kind e.label is line.label
    where
      go : (kind : ElemKind) (label : Label) → is_channel kind ≡ true → takes kind label ≡ true
          → label ≡ Track
      go ChanX Track c t = refl
      go ChanY Track c t = refl
      go ChanX label c t = absurd (false≢true t)
      go ChanY label c t = absurd (false≢true t)
      go kind label c t = absurd (false≢true c)

  -- a slot so far is that of a line so far, if it is of this net
  line-of : (k : ℕ) (s : Slot) → s.net ≡ length earlier
      → list_any (same_slot s) (so_far k) ≡ true
      → (e : Elem) × In (take k net.elems) e × (elem_slot (length earlier) e ≡ Some s)
  line-of k s own any =
      let last : RouteNet = record net { elems = take k net.elems } in
      let there = slot-line (record p.route { nets = earlier ++ last ∷ [] }) s any in
      let mine : there.net ≡ last =
      some_is (sym there.here ∙ get-last earlier last s.net own) in (
        there.elem,
        subst (λ (m : RouteNet). In m.elems there.elem) mine there.among,
        ap (λ (m : ℕ). elem_slot m there.elem) (sym own) ∙ there.is,
      )

  -- a channel line that its net does not have yet brings a slot
  brings : (k : ℕ) (e : Elem) (s : Slot) → slice_get net.elems k ≡ Some e
      → elem_slot (length earlier) e ≡ Some s
      → list_any (same_elem e) (take k net.elems) ≡ false
      → list_any (same_slot s) (so_far k) ≡ false
  brings k e s at has new = go (list_any (same_slot s) (so_far k)) refl
    where
      go : (b : Bool) → list_any (same_slot s) (so_far k) ≡ b → b ≡ false
      go false is = refl
      go true is =
          let mine = slot-cell (length earlier) e s has in
          let other = line-of k s (slot-net (length earlier) e s has) is in
          let its = slot-cell (length earlier) other.0 s other.2 in
          let place = In-place (take k net.elems) other.0 other.1 in
          let earlier_line : In net.elems other.0 =
          get-In net.elems place.0 other.0 (get-take net.elems k place.0 other.0 place.1).1 in
          absurd (false≢true (sym new
          ∙ list_any-from_In (same_elem e) (take k net.elems) other.0 other.1
          (cell-same e other.0 s.cell mine its
          (labelled e (get-In net.elems k e at) (channel-of e s.cell mine))
          (labelled other.0 earlier_line (channel-of other.0 s.cell its)))))

  grows : (k : ℕ) (e : Elem) → slice_get net.elems k ≡ Some e
      → so_far (suc k) ≡ with_elem (so_far k) (length earlier) e
  grows k e at = slots-step earlier net k e at

  never-fewer : (k : ℕ) (e : Elem) → slice_get net.elems k ≡ Some e
      → length (so_far k) ≤ length (so_far (suc k))
  never-fewer k e at =
      rw (grows k e at) (more-slots (so_far k) (elem_slot (length earlier) e))

  -- the depth of a line more
  module _ (k : ℕ) (e : Elem) (at : slice_get net.elems k ≡ Some e)
      (below : AreBelow (length (so_far k)) (deep_lines same_elem (take k net.elems))) where
    abbrev lines : List DeepLine
    lines = deep_lines same_elem (take k net.elems)

    -- behind a line that is no SINK there is a slot more
    fresh : (previous : DeepLine) → last_or None lines ≡ Some previous
        → is_sink previous.elem.kind ≡ false → is_channel e.kind ≡ true
        → length (so_far (suc k)) ≡ length (so_far k) + 1
    fresh previous last sink channel =
        let s = channel-slot (length earlier) e channel in
        let before : last_or None (take k net.elems) ≡ Some previous.elem =
        ap (last_or None) (sym (deep-are same_elem (take k net.elems)))
        ∙ last-changed (λ (line : DeepLine). line.elem) None lines
        ∙ ap (option_map (λ (line : DeepLine). line.elem)) last in
        let fit = fitting p (elem_line earlier net k e) (Fits-line p fits
        (elem_line earlier net k e) (elem-among p.route.nets n net k e here at)) in
        let new : list_any (same_elem e) (take k net.elems) ≡ false =
        sym ((λ i. not ((channel-kinds e.kind channel).3 i)
        && not (option_map_or (λ (a : Elem). is_sink a.kind) (before i) false)
        && list_any (same_elem e) (take k net.elems))
        ∙ (λ i. not (sink i) && list_any (same_elem e) (take k net.elems))) ∙ fit.new in
        ap length (grows k e at
        ∙ ap (λ (o : Option Slot). option_map_or (with_slot (so_far k)) o (so_far k)) s.1)
        ∙ new-slot (so_far k) s.0 (brings k e s.0 at s.1 new)

    step : (d : ℕ) → depth_behind same_elem lines e ≡ Some d → d < length (so_far (suc k))
    step d is = go (is_channel e.kind) refl (last_or None lines) refl is
      where
        by : is_channel e.kind ≡ true → (previous : DeepLine) → last_or None lines ≡ Some previous
            → (sink opin : Bool) → is_sink previous.elem.kind ≡ sink
            → (if sink then option_and_then (λ (line : DeepLine). line.depth)
            (find (λ (line : DeepLine). same_elem e line.elem) lines)
            else if opin then Some 0 else option_map (λ c. c + 1) previous.depth) ≡ Some d
            → d < length (so_far (suc k))
        by channel previous last true opin sink h =
            let less : d < length (so_far k) = found-below same_elem (length (so_far k))
            (find (λ (line : DeepLine). same_elem e line.elem) lines) d
            (λ line there. below line
            (find-In (λ (line : DeepLine). same_elem e line.elem) lines line there).0) h in
            let more = never-fewer k e at in
            omega arith
        by channel previous last false true sink h =
            let none : 0 ≡ d = some_is h in
            let s = channel-slot (length earlier) e channel in
            let some = some-slot (so_far k) s.0 in
            let all : so_far (suc k) ≡ with_slot (so_far k) s.0 = grows k e at
            ∙ ap (λ (o : Option Slot). option_map_or (with_slot (so_far k)) o (so_far k)) s.1 in
            rw all (omega (arith, none, some))
        by channel previous last false false sink h =
            let less = one-more same_elem (length (so_far k)) previous.depth d
            (below previous (last-In lines previous last)) h in
            let more = fresh previous last sink channel in
            omega (arith, less, more)

        go : (b : Bool) → is_channel e.kind ≡ b → (o : Option DeepLine) → last_or None lines ≡ o
            → (if b then option_and_then (λ previous. depth_after same_elem lines previous e) o
            else None) ≡ Some d
            → d < length (so_far (suc k))
        go true channel (Some previous) last h = by channel previous last
            (is_sink previous.elem.kind) (is_opin previous.elem.kind) refl h
        go true channel None last h = cc
        go false channel o last h = cc

  pub deep-slots : (k : ℕ)
      → AreBelow (length (so_far k)) (deep_lines same_elem (take k net.elems))
  deep-slots zero = λ line i. absurd (none net.elems line i)
    where
      none : (xs : List Elem) (l : DeepLine) → In (deep_lines same_elem (take 0 xs)) l → ⊥
      none [] l i = i
      none (x ∷ xs) l i = i
  deep-slots (suc k) = go (slice_get net.elems k) refl (deep-slots k)
    where
      go : (o : Option Elem) → slice_get net.elems k ≡ o
          → AreBelow (length (so_far k)) (deep_lines same_elem (take k net.elems))
          → AreBelow (length (so_far (suc k))) (deep_lines same_elem (take (suc k) net.elems))
      go None is below =
          let same : take (suc k) net.elems ≡ take k net.elems = take-none net.elems k is in
          subst (λ (xs : List Elem). AreBelow
          (length (slots_of (earlier ++ record net { elems = xs } ∷ []))) (deep_lines same_elem xs))
          (sym same) below
      go (Some e) is below = λ line among d has.
          let all : deep_lines same_elem (take (suc k) net.elems)
          ≡ deep_lines same_elem (take k net.elems)
          ++ deep_line same_elem (deep_lines same_elem (take k net.elems)) e ∷ [] =
          ap (deep_lines same_elem) (take-get net.elems k e is)
          ∙ deep-push same_elem (take k net.elems) e in
          elim (In-append_cases (deep_lines same_elem (take k net.elems))
          (deep_line same_elem (deep_lines same_elem (take k net.elems)) e ∷ []) line
          (subst (λ (ls : List DeepLine). In ls line) all among)) [
            | inl old ↦
                (let less : d < length (so_far k) = below line old d has in
                let more = never-fewer k e is in
                omega arith)
            | inr new ↦ elim new [
              | inl here_is ↦ step k e is below d
                  (ap (λ (l : DeepLine). l.depth) here_is ∙ has)
              | inr none ↦ absurd none
            ]
          ]

  -- all slots of the net are among those up to and with it
  whole : so_far (length net.elems) ≡ slots_of (take (suc n) p.route.nets)
  whole =
      (λ i. slots_of (earlier ++ record net { elems = take-length net.elems i } ∷ []))
      ∙ ap slots_of (sym (take-get p.route.nets n net here))

  from-start : (k : ℕ) → length (so_far 0) ≤ length (so_far k)
  from-start zero = omega arith
  from-start (suc k) = go (slice_get net.elems k) refl (from-start k)
    where
      go : (o : Option Elem) → slice_get net.elems k ≡ o → length (so_far 0) ≤ length (so_far k)
          → length (so_far 0) ≤ length (so_far (suc k))
      go None is less = subst (λ (xs : List Elem). length (so_far 0)
          ≤ length (slots_of (earlier ++ record net { elems = xs } ∷ [])))
          (sym (take-none net.elems k is)) less
      go (Some e) is less = let more = never-fewer k e is in omega arith

  pub depths-few : greatest (net_depths net) ≤ length (slots_of (take (suc n) p.route.nets))
  depths-few = subst (λ (ss : List Slot). greatest (net_depths net) ≤ length ss) whole
      (few (filter_map (λ (line : DeepLine). line.depth) (deep_lines same_elem net.elems))
      (λ d i. let line = from_In-filter_map (λ (l : DeepLine). l.depth)
      (deep_lines same_elem net.elems) d i in
      deep-slots (length net.elems) line.0
      (subst (λ (xs : List Elem). In (deep_lines same_elem xs) line.0)
      (sym (take-length net.elems)) line.1) d line.2))
    where
      few : (ds : List ℕ) → ((d : ℕ) → In ds d → d < length (so_far (length net.elems)))
          → greatest ds ≤ length (so_far (length net.elems))
      few [] each = omega arith
      few (d ∷ ds) each =
          let first = each d (inl refl) in
          let rest = few ds (λ c i. each c (inr i)) in
          omega (arith, first, rest)

  pub slots-rise : length (slots_of earlier) ≤ length (slots_of (take (suc n) p.route.nets))
  slots-rise =
      let less = from-start (length net.elems) in
      subst (λ (ss : List Slot). length (slots_of earlier) ≤ length ss) whole
      (subst (λ (ss : List Slot). length ss ≤ length (so_far (length net.elems)))
      (slots-start earlier net) less)

-- the greatest depth of some nets
pub nets-few : (p : RoutingProblem) → IsSound p.route → Fits p → (n : ℕ)
    → greatest (flat_map net_depths (take n p.route.nets))
    ≤ length (slots_of (take n p.route.nets))
nets-few p sound fits zero = none p.route.nets
  where
    none : (nets : List RouteNet)
        → greatest (flat_map net_depths (take 0 nets)) ≤ length (slots_of (take 0 nets))
    none [] = omega arith
    none (net ∷ nets) = omega arith
nets-few p sound fits (suc n) = go (slice_get p.route.nets n) refl (nets-few p sound fits n)
  where
    go : (o : Option RouteNet) → slice_get p.route.nets n ≡ o
        → greatest (flat_map net_depths (take n p.route.nets))
        ≤ length (slots_of (take n p.route.nets))
        → greatest (flat_map net_depths (take (suc n) p.route.nets))
        ≤ length (slots_of (take (suc n) p.route.nets))
    go None is less = subst (λ (nets : List RouteNet). greatest (flat_map net_depths nets)
        ≤ length (slots_of nets)) (sym (take-none p.route.nets n is)) less
    go (Some net) is less =
        let own = depths-few p sound fits n net is in
        let rise = slots-rise p sound fits n net is in
        let all : greatest (flat_map net_depths (take (suc n) p.route.nets))
        ≡ max (greatest (flat_map net_depths (take n p.route.nets))) (greatest (net_depths net)) =
        ap (λ (nets : List RouteNet). greatest (flat_map net_depths nets))
        (take-get p.route.nets n net is) ∙ greatest-net (take n p.route.nets) net in
        omega (arith, own, rise, all, less)

-- so the greatest depth of a route is at most the number of its slots
pub depth-few : (p : RoutingProblem) → IsSound p.route → Fits p
    → trace_depth p.route ≤ length (slots p.route)
depth-few p sound fits =
    subst (λ (nets : List RouteNet). greatest (flat_map net_depths nets) ≤ length (slots_of nets))
    (take-length p.route.nets) (nets-few p sound fits (length p.route.nets))

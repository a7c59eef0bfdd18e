-- Each step of a route that fits leads from an earlier slot to a later one: the line of the later
-- one is the first of its net on that cell.
use Rattle.std.proofs.Common.{◌≡◌, ℕ, suc, ◌+◌, ◌<◌, ◌≤◌, Bool, true, false, cond, Option, Some, None, List, [], ◌∷◌, ◌++◌, length, take, drop, get_or, inl, inr, refl, sym, ap, subst, ◌∙◌, append_assoc, arith, All}
use Rattle.std.specs.Prelude.{◌==◌, ◌&&◌, ◌||◌, not, filter_map, slice_get, option_map, if◌then◌else◌}
use Rattle.std.specs.List.{enumerate_from, last_or, list_any, position_or_len}
use Rattle.std.proofs.lemmas.Bool.{false≢true}
use Rattle.std.proofs.lemmas.Bool.Decides.{Decides-eqb}
use Rattle.std.proofs.lemmas.List.{append-nil, length-take, take-append-drop}
use Rattle.std.proofs.lemmas.List.Elements.{filter_map-append}
use Rattle.std.proofs.lemmas.Option.{get_or_from_slice_get, slice_get_within}
use Rattle.list_laws.proofs.Members.{In, In-all, In-append_cases, In-append_left, In-flat_map, In-list_any, In-map, from_In-filter_map, from_In-flat_map, list_any-from_In}
use Rattle.list_laws.proofs.Numbered.{from_In-enumerate, numbered-there}
use Rattle.list_laws.proofs.Places.{get-In, get-last, get-taken, last-push, some_is, split-at, take-get}
use Rattle.fpga_text.specs.Codes.{first_code}
use Rattle.fpga_text.specs.FirstFault.{Faults, IsFaultless}
use Rattle.fpga_text.specs.declared.fault.TextFault.{TextFault}
use Rattle.fpga_text.specs.declared.fault.TextFault.TheVariants.{Bad}
use Rattle.fpga_text.proofs.FaultLemmas.{faultless-line}
use Rattle.fpga_types.specs.Fit.{IsFit, LineContext, comes_again, context_of, fit_codes, fit_faults, leaps, line_fault, net_lines, route_lines, same_elem, splits}
use Rattle.fpga_types.specs.Kinds.{is_channel, is_sink, same_kind, same_label, takes}
use Rattle.fpga_types.specs.Size.{Size}
use Rattle.fpga_types.specs.Slots.{adjacent, channel_at, elem_cell, elem_slot, first_seen, same_slot, slot_number, slots, slots_of, step_of, steps}
use Rattle.fpga_types.specs.Sound.{IsSound, IsSoundElem, IsSoundNet}
use Rattle.fpga_types.specs.declared.grid.Axis.{Axis}
use Rattle.fpga_types.specs.declared.grid.Axis.TheVariants.{X, Y}
use Rattle.fpga_types.specs.declared.grid.Cell.{Cell}
use Rattle.fpga_types.specs.declared.problem.RouteStep.{RouteStep}
use Rattle.fpga_types.specs.declared.problem.Slot.{Slot}
use Rattle.fpga_types.specs.declared.route.Elem.{Elem}
use Rattle.fpga_types.specs.declared.route.ElemKind.{ElemKind}
use Rattle.fpga_types.specs.declared.route.ElemKind.TheVariants.{Source, Opin, ChanX, ChanY, Ipin, Sink}
use Rattle.fpga_types.specs.declared.route.Label.{Label}
use Rattle.fpga_types.specs.declared.route.Label.TheVariants.{Class, Pin, Pad, Track}
use Rattle.fpga_types.specs.declared.route.RouteNet.{RouteNet}
use Rattle.fpga_types.specs.declared.route.RouteText.{RouteText}
use Rattle.fpga_types.proofs.FitLemmas.{In-splits}
use Rattle.fpga_bounds.specs.NetFit.{line_at, slots_so_far}
use Rattle.fpga_bounds.specs.SlotTable.{with_slot}
use Rattle.fpga_bounds.proofs.LineLemmas.{elem_line}
use Rattle.fpga_bounds.proofs.SlotTableLemmas.{same_slot-is}
use Rattle.fpga_bounds.proofs.SlotsOfLemmas.{any-first_seen, channel_slots, channel_slots-push, first_seen-with}
use Rattle.fpga_bounds.proofs.StepFacts.{adjacent-there, each-all, each-brought, each-made, slot-cell, slot-in, step-parts}

-- ---- what is seen in a front keeps its number

abbrev IsFront : List Slot → List Slot → Type 0
IsFront xs zs = (rest : List Slot) × (zs ≡ xs ++ rest)

front-with : (all : List Slot) (s : Slot) → IsFront all (with_slot all s)
front-with all s = go (list_any (same_slot s) all)
  where
    go : (b : Bool) → IsFront all (if b then all else all ++ s ∷ [])
    go true = ([], sym (append-nil all))
    go false = (s ∷ [], refl)

front-seen : (ys xs : List Slot)
    → IsFront (first_seen same_slot xs) (first_seen same_slot (xs ++ ys))
front-seen [] xs = (
  [],
  ap (first_seen same_slot) (append-nil xs) ∙ sym (append-nil (first_seen same_slot xs)),
)
front-seen (y ∷ ys) xs =
    let one = front-with (first_seen same_slot xs) y in
    let more = front-seen ys (xs ++ y ∷ []) in (
      one.0 ++ more.0,
      ap (first_seen same_slot) (sym (append_assoc xs (y ∷ []) ys)) ∙ more.1
          ∙ ap (λ (zs : List Slot). zs ++ more.0) (first_seen-with xs y ∙ one.1)
          ∙ append_assoc (first_seen same_slot xs) one.0 more.0,
    )

module _ (q : Slot → Bool) where
  number-front : (xs ys : List Slot) → list_any q xs ≡ true
      → position_or_len q (xs ++ ys) < length xs
  number-front [] ys h = absurd (false≢true h)
  number-front (x ∷ xs) ys h = go (q x) h (number-front xs ys)
    where
      go : (b : Bool) → (b || list_any q xs) ≡ true
          → (list_any q xs ≡ true → position_or_len q (xs ++ ys) < length xs)
          → cond (not b) (1 + position_or_len q (xs ++ ys)) 0 < length (x ∷ xs)
      go true e more = omega arith
      go false e more = let g = more e in omega (arith, g)

  number-behind : (xs ys : List Slot) → list_any q xs ≡ false
      → length xs ≤ position_or_len q (xs ++ ys)
  number-behind [] ys h = omega arith
  number-behind (x ∷ xs) ys h = go (q x) h (number-behind xs ys)
    where
      go : (b : Bool) → (b || list_any q xs) ≡ false
          → (list_any q xs ≡ false → length xs ≤ position_or_len q (xs ++ ys))
          → length (x ∷ xs) ≤ cond (not b) (1 + position_or_len q (xs ++ ys)) 0
      go true e more = absurd (false≢true (sym e))
      go false e more = let g = more e in omega (arith, g)

-- ---- the slots so far are a front of all slots

channels-more : (later nets : List RouteNet)
    → IsFront (channel_slots nets) (channel_slots (nets ++ later))
channels-more [] nets = (
  [],
  ap channel_slots (append-nil nets) ∙ sym (append-nil (channel_slots nets)),
)
channels-more (net ∷ later) nets =
    let more = channels-more later (nets ++ net ∷ []) in
    let own : List Slot = filter_map (elem_slot (length nets)) net.elems in (
      own ++ more.0,
      ap channel_slots (sym (append_assoc nets (net ∷ []) later)) ∙ more.1
          ∙ ap (λ (zs : List Slot). zs ++ more.0) (channel_slots-push nets net)
          ∙ append_assoc (channel_slots nets) own more.0,
    )

-- of a net the first lines
abbrev first_lines : RouteNet → ℕ → RouteNet
first_lines net i = record net { elems = take i net.elems }

channels-part : (earlier later : List RouteNet) (net : RouteNet) (i : ℕ)
    → IsFront (channel_slots (earlier ++ first_lines net i ∷ []))
    (channel_slots (earlier ++ net ∷ later))
channels-part earlier later net i =
    let made : List Elem → List Slot = filter_map (elem_slot (length earlier)) in
    let front : List Slot = made (take i net.elems) in
    let back : List Slot = made (drop i net.elems) in
    let more = channels-more later (earlier ++ net ∷ []) in
    let own : made net.elems ≡ front ++ back =
    ap made (sym (take-append-drop i net.elems))
    ∙ filter_map-append (elem_slot (length earlier)) (take i net.elems) (drop i net.elems) in (
      back ++ more.0,
      ap channel_slots (sym (append_assoc earlier (net ∷ []) later)) ∙ more.1
          ∙ ap (λ (zs : List Slot). zs ++ more.0) (channel_slots-push earlier net
          ∙ ap (λ (zs : List Slot). channel_slots earlier ++ zs) own
          ∙ sym (append_assoc (channel_slots earlier) front back)
          ∙ ap (λ (zs : List Slot). zs ++ back)
          (sym (channel_slots-push earlier (first_lines net i))))
          ∙ append_assoc (channel_slots (earlier ++ first_lines net i ∷ [])) back more.0,
    )

slots-front : (nets : List RouteNet) (n : ℕ) (net : RouteNet) (i : ℕ)
    → slice_get nets n ≡ Some net → IsFront (slots_so_far (take n nets) net i) (slots_of nets)
slots-front nets n net i here =
    let at : get_or nets n net ≡ net = get_or_from_slice_get nets n net net here in
    let whole : nets ≡ take n nets ++ net ∷ drop (suc n) nets =
    split-at nets n net (slice_get_within nets n net here)
    ∙ ap (λ (m : RouteNet). take n nets ++ m ∷ drop (suc n) nets) at in
    let part = channels-part (take n nets) (drop (suc n) nets) net i in
    let seen = front-seen part.0 (channel_slots (take n nets ++ first_lines net i ∷ [])) in (
      seen.0,
      ap slots_of whole ∙ ap (first_seen same_slot) part.1 ∙ seen.1,
    )

-- ---- a channel of a slot that is there already comes again

pub slot-net : (n : ℕ) (e : Elem) (s : Slot) → elem_slot n e ≡ Some s → s.net ≡ n
slot-net n e s h = go (elem_cell e) h
  where
    go : (o : Option Cell) → option_map {T = Cell} {U = Slot}
        (λ cell. record { net = n; cell = cell }) o ≡ Some s → s.net ≡ n
    go None g = cc
    go (Some c) g = sym (ap (λ (t : Slot). t.net)
        (some_is {x = record { net = n; cell = c }} {y = s} g))

-- the channels of earlier nets are not of this one
earlier-net : (nets : List RouteNet) (s : Slot) → In (channel_slots nets) s
    → s.net < length nets
earlier-net nets s i =
    let of_net = from_In-flat_map (λ (m : ℕ × RouteNet). filter_map (elem_slot m.0) m.1.elems)
    (enumerate_from 0 nets) s i in
    let place = from_In-enumerate 0 nets of_net.0 of_net.1 in
    let of_line = from_In-filter_map (elem_slot of_net.0.0) of_net.0.1.elems s of_net.2 in
    let is : s.net ≡ of_net.0.0 = slot-net of_net.0.0 of_line.0 s of_line.2 in
    let low = slice_get_within nets place.0 of_net.0.1 place.2 in
    omega (arith, is, place.1, low)

abbrev kind_on : Axis → ElemKind
kind_on X = ChanX
kind_on Y = ChanY

record IsChannelOf (cell : Cell) (kind : ElemKind) (x y : ℕ) : Type 0 where
  kind_is : kind ≡ kind_on cell.axis
  at_x : x ≡ cell.x
  at_y : y ≡ cell.y

channel-of : (kind : ElemKind) (x y : ℕ) (cell : Cell) → channel_at kind x y ≡ Some cell
    → IsChannelOf cell kind x y
channel-of ChanX x y cell h =
    let e : record { axis = X; x = x; y = y } ≡ cell = some_is h in record {
      kind_is = ap (λ (c : Cell). kind_on c.axis) e;
      at_x = ap (λ (c : Cell). c.x) e;
      at_y = ap (λ (c : Cell). c.y) e;
    }
channel-of ChanY x y cell h =
    let e : record { axis = Y; x = x; y = y } ≡ cell = some_is h in record {
      kind_is = ap (λ (c : Cell). kind_on c.axis) e;
      at_x = ap (λ (c : Cell). c.x) e;
      at_y = ap (λ (c : Cell). c.y) e;
    }
channel-of Source x y cell h = cc
channel-of Opin x y cell h = cc
channel-of Ipin x y cell h = cc
channel-of Sink x y cell h = cc

label-is : (axis : Axis) (label : Label) → takes (kind_on axis) label ≡ true → label ≡ Track
label-is X Class h = absurd (false≢true h)
label-is X Pin h = absurd (false≢true h)
label-is X Pad h = absurd (false≢true h)
label-is X Track h = refl
label-is Y Class h = absurd (false≢true h)
label-is Y Pin h = absurd (false≢true h)
label-is Y Pad h = absurd (false≢true h)
label-is Y Track h = refl

same-channel : (axis : Axis) (x y n m : ℕ) → (same_kind (kind_on axis) (kind_on axis)
    && (x == x && y == y && same_label Track Track) && (is_channel (kind_on axis) || n == m))
    ≡ true
same-channel X x y n m = rw ((Decides-eqb x x).1 refl, (Decides-eqb y y).1 refl) refl
same-channel Y x y n m = rw ((Decides-eqb x x).1 refl, (Decides-eqb y y).1 refl) refl

one-elem : (a b : Elem) (cell : Cell) → elem_cell a ≡ Some cell → elem_cell b ≡ Some cell
    → takes a.kind a.label ≡ true → takes b.kind b.label ≡ true → same_elem a b ≡ true
one-elem a b cell at_a at_b label_a label_b =
    let of_a = channel-of a.kind a.x a.y cell at_a in
    let of_b = channel-of b.kind b.x b.y cell at_b in
    let track_a : a.label ≡ Track =
    label-is cell.axis a.label
    (subst (λ (k : ElemKind). takes k a.label ≡ true) of_a.kind_is label_a) in
    let track_b : b.label ≡ Track =
    label-is cell.axis b.label
    (subst (λ (k : ElemKind). takes k b.label ≡ true) of_b.kind_is label_b) in
    rw (of_a.kind_is, of_b.kind_is, of_a.at_x, of_b.at_x, of_a.at_y, of_b.at_y, track_a, track_b)
    (same-channel cell.axis cell.x cell.y a.number b.number)

-- ---- a line without a fault does not come again

clean-line : (route : RouteText) → IsFit route → (n : ℕ) (net : RouteNet) (i : ℕ) (e : Elem)
    → slice_get route.nets n ≡ Some net → slice_get net.elems i ≡ Some e
    → line_fault route.grid (elem_line (take n route.nets) net i e) ≡ None
clean-line route fit n net i e here there =
    no_fault (fit_faults route) (line_fault route.grid (elem_line (take n route.nets) net i e)) fit
    (In-map (line_fault route.grid) (route_lines route) (elem_line (take n route.nets) net i e)
    (In-flat_map (λ s. net_lines s.0 s.1) (splits route.nets)
    (take n route.nets, net, drop (suc n) route.nets) (elem_line (take n route.nets) net i e)
    (In-splits route.nets n net here)
    (inr (In-map (line_at (take n route.nets) net) (splits net.elems)
    (take i net.elems, e, drop (suc i) net.elems) (In-splits net.elems i e there)))))
  where
    no_fault : (faults : Faults) (fault : Option TextFault) → IsFaultless faults → In faults fault
        → fault ≡ None
    no_fault [] fault clean within = absurd within
    no_fault (first ∷ more) fault clean within =
        let parts = faultless-line first more clean in
        elim within [
          | inl same ↦ sym same ∙ parts.0
          | inr later ↦ no_fault more fault parts.1 later
        ]

none-again : (grid : Size) (n : ℕ) (at : LineContext) → first_code fit_codes grid n at ≡ None
    → comes_again at ≡ false
none-again grid n at clean = go (leaps grid at) (comes_again at) refl _ clean
  where
    go : (a b : Bool) → comes_again at ≡ b → (rest : Option _)
        → (if a then Some (Bad n 510) else if b then Some (Bad n 511) else rest) ≡ None
        → comes_again at ≡ false
    go true b e rest f = cc
    go false true e rest f = cc
    go false false e rest f = e

channel-sinks : (kind : ElemKind) (x y : ℕ) (cell : Cell) → channel_at kind x y ≡ Some cell
    → is_sink kind ≡ false
channel-sinks ChanX x y cell h = refl
channel-sinks ChanY x y cell h = refl
channel-sinks Source x y cell h = cc
channel-sinks Opin x y cell h = cc
channel-sinks Ipin x y cell h = cc
channel-sinks Sink x y cell h = cc

module _ (route : RouteText) (sound : IsSound route) (fit : IsFit route) (n : ℕ) (net : RouteNet)
    (i : ℕ) (a b : Elem) (p q : Slot) (here : slice_get route.nets n ≡ Some net)
    (at_a : slice_get net.elems i ≡ Some a) (at_b : slice_get net.elems (suc i) ≡ Some b)
    (slot_a : elem_slot n a ≡ Some p) (slot_b : elem_slot n b ≡ Some q) where
  abbrev earlier : List RouteNet
  earlier = take n route.nets

  abbrev before : List Elem
  before = take (suc i) net.elems

  count : length earlier ≡ n
  count = let low = slice_get_within route.nets n net here in
      let all = length-take n route.nets in omega (arith, low, all)

  -- the channel before is no sink, and so this one starts no branch
  not-again : list_any (same_elem b) before ≡ false
  not-again =
      let clean = none-again route.grid b.line (context_of (elem_line earlier net (suc i) b))
      (clean-line route fit n net (suc i) b here at_b) in
      let last : last_or None before ≡ Some a =
      ap (last_or None) (take-get net.elems i a at_a) ∙ last-push None (take i net.elems) a in
      let no_sink_a = channel-sinks a.kind a.x a.y p.cell (slot-cell n a p slot_a) in
      let no_sink_b = channel-sinks b.kind b.x b.y q.cell (slot-cell n b q slot_b) in
      (rw (last, no_sink_a, no_sink_b) at clean)

  sound-elem : (e : Elem) → In net.elems e → takes e.kind e.label ≡ true
  sound-elem e i =
      (In-all (IsSoundElem route.grid) net.elems e
      (In-all (IsSoundNet route.grid) route.nets net sound.nets
      (get-In route.nets n net here)).elems
      i).label

  seen-again : (s : Slot) → In (channel_slots (earlier ++ first_lines net (suc i) ∷ [])) s
      → q ≡ s → list_any (same_elem b) before ≡ true
  seen-again s there is = elim (In-append_cases (channel_slots earlier)
      (filter_map (elem_slot (length earlier)) before) s
      (subst (λ (zs : List Slot). In zs s) (channel_slots-push earlier (first_lines net (suc i)))
      there)) [
        | inl low ↦
            (let other = earlier-net earlier s low in
            let own : q.net ≡ n = slot-net n b q slot_b in
            let one : q.net ≡ s.net = ap (λ (t : Slot). t.net) is in
            absurd (omega (arith, other, own, one, count)))
        | inr own ↦
            (let made = from_In-filter_map (elem_slot (length earlier)) before s own in
            let x : Elem = made.0 in
            let slot_x : elem_slot n x ≡ Some q =
            subst (λ (m : ℕ). elem_slot m x ≡ Some q) count
            (made.2 ∙ ap (λ (t : Slot). Some t) (sym is)) in
            let in_net : In net.elems x =
            subst (λ (xs : List Elem). In xs x) (take-append-drop (suc i) net.elems)
            (In-append_left before (drop (suc i) net.elems) x made.1) in
            list_any-from_In (same_elem b) before x made.1
            (one-elem b x q.cell (slot-cell n b q slot_b) (slot-cell n x q slot_x)
            (sound-elem b (get-In net.elems (suc i) b at_b)) (sound-elem x in_net)))
      ]

  fresh : (t : Bool) → list_any (same_slot q) (slots_so_far earlier net (suc i)) ≡ t
      → list_any (same_slot q) (slots_so_far earlier net (suc i)) ≡ false
  fresh false e = e
  fresh true e =
      let channels : List Slot = channel_slots (earlier ++ first_lines net (suc i) ∷ []) in
      let there = In-list_any (same_slot q) channels (sym (any-first_seen q channels) ∙ e) in
      absurd (false≢true (sym not-again
      ∙ seen-again there.0 there.1 (same_slot-is q there.0 there.2)))

  met : list_any (same_slot p) (slots_so_far earlier net (suc i)) ≡ true
  met = slot-in (earlier ++ first_lines net (suc i) ∷ []) n (first_lines net (suc i)) i a p
      (get-last earlier (first_lines net (suc i)) n (sym count))
      (get-taken net.elems (suc i) i a (omega arith) at_a) slot_a

  neighbours-rise : slot_number (slots route) p < slot_number (slots route) q
  neighbours-rise =
      let seen : List Slot = slots_so_far earlier net (suc i) in
      let front = slots-front route.nets n net (suc i) here in
      let low = number-front (same_slot p) seen front.0 met in
      let high = number-behind (same_slot q) seen front.0 (fresh _ refl) in
      let at_p = ap (λ (all : List Slot). slot_number all p) front.1 in
      let at_q = ap (λ (all : List Slot). slot_number all q) front.1 in
      omega (arith, low, high, at_p, at_q)

abbrev pub IsForward : RouteStep → Type 0
IsForward step = step.from < step.to

-- each step leads to a later slot
pub forward-steps : (route : RouteText) → IsSound route → IsFit route
    → All IsForward (steps route)
forward-steps route sound fit =
    each-all IsForward (steps route)
    (each-brought IsForward
    (λ (n : ℕ × RouteNet). filter_map
    (λ p. step_of (slots route) (elem_slot n.0 p.0) (elem_slot n.0 p.1)) (adjacent n.1.elems))
    (enumerate_from 0 route.nets) (λ k z numbered.
    let place = numbered-there 0 route.nets k z numbered in
    let number : k ≡ z.0 = omega (arith, place.0) in
    let here : slice_get route.nets z.0 ≡ Some z.1 =
    subst (λ (m : ℕ). slice_get route.nets m ≡ Some z.1) number place.1 in
    each-made IsForward (λ p. step_of (slots route) (elem_slot z.0 p.0) (elem_slot z.0 p.1))
    (adjacent z.1.elems) (λ i p s beside made.
    let ends = adjacent-there z.1.elems i p beside in
    let parts = step-parts (slots route) (elem_slot z.0 p.0) (elem_slot z.0 p.1) s made in
    subst IsForward parts.4
    (neighbours-rise route sound fit z.0 z.1 i p.0 p.1 parts.0 parts.1 here ends.0 ends.1
    parts.2 parts.3))))

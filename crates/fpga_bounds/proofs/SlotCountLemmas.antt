-- Where a fit is refused for its slots, the route has more of them than may be.
use Rattle.std.specs.Prelude.{◌&&◌, ◌||◌, ◌==◌, not, filter_map, flat_map, map, option_map, if◌then◌else◌}
use Rattle.std.specs.List.{cons_option, enumerate_from, list_any}
use Rattle.std.specs.Option.{option_or}
use Rattle.std.proofs.Common.{◌≡◌, ◌∙◌, ℕ, ◌+◌, ◌<◌, ◌≤◌, Bool, true, false, Option, Some, None, List, [], ◌∷◌, ◌++◌, length, refl, sym, ap, subst, inl, inr, arith, append_assoc, length-append}
use Rattle.std.proofs.lemmas.Bool.{and_from, eq-eqb, false≢true, ne_eqb}
use Rattle.std.proofs.lemmas.Bool.Decides.{Decides-eqb}
use Rattle.std.proofs.lemmas.List.{append-nil}
use Rattle.std.proofs.lemmas.List.Elements.{filter_map-append}
use Rattle.std.proofs.lemmas.List.Folds.{list_any-append}
use Rattle.fpga_bounds.specs.SlotTable.{with_slot}
use Rattle.fpga_bounds.proofs.SlotTableLemmas.{same_slot-is}
use Rattle.fpga_bounds.proofs.SlotsOfLemmas.{any-first_seen, channel_slots, channel_slots-push, first_seen-with}
use Rattle.fpga_text.specs.FirstFault.{Faults, IsFirst}
use Rattle.fpga_text.specs.declared.fault.TextFault.{TextFault}
use Rattle.fpga_text.specs.declared.fault.TextFault.TheVariants.{Bad, Limit}
use Rattle.fpga_types.proofs.FitLemmas.{Place, place-in, splits-whole}
use Rattle.fpga_types.specs.Fabric.{same_cell}
use Rattle.fpga_types.specs.Fit.{RouteLine, comes_again, context_of, is_out_of_order, leaps, line_number, net_lines, route_lines, same_elem, same_place, slots_past, splits, starts_loose}
use Rattle.fpga_types.specs.Fits.{device_of, end_fault, is_other_pin, is_other_sink, is_other_source, is_pin_apart, is_repeated, is_sink_not_once, is_unknown, lacks_net, net_line_fault, problem_context, problem_faults, same_size}
use Rattle.fpga_types.specs.Kinds.{is_channel, same_kind, same_label}
use Rattle.fpga_types.specs.Problem.{RoutingProblem}
use Rattle.fpga_types.specs.Slots.{channel_at, elem_cell, elem_slot, first_seen, same_slot, slots, slots_of}
use Rattle.fpga_types.specs.declared.grid.Axis.{Axis}
use Rattle.fpga_types.specs.declared.grid.Axis.TheVariants.{X, Y}
use Rattle.fpga_types.specs.declared.grid.Cell.{Cell}
use Rattle.fpga_types.specs.declared.limits.TheConstants.{SLOT_LIMIT}
use Rattle.fpga_types.specs.declared.problem.Slot.{Slot}
use Rattle.fpga_types.specs.declared.route.Elem.{Elem}
use Rattle.fpga_types.specs.declared.route.ElemKind.{ElemKind}
use Rattle.fpga_types.specs.declared.route.ElemKind.TheVariants.{Source, Opin, ChanX, ChanY, Ipin, Sink}
use Rattle.fpga_types.specs.declared.route.Label.TheVariants.{Track}
use Rattle.fpga_types.specs.declared.route.RouteNet.{RouteNet}
use Rattle.fpga_types.specs.declared.route.RouteText.{RouteText}
use Rattle.list_laws.proofs.Members.{In, In-append_cases, In-append_left, from_In-flat_map, from_In-map}
use Rattle.list_laws.proofs.Places.{some_is}

-- each channel line has a track
abbrev pub AreTracks : List Elem → Type 0
AreTracks elems = (e : Elem) → In elems e → is_channel e.kind ≡ true → e.label ≡ Track

-- ---- more slots of more lines

with-longer : (all : List Slot) (s : Slot) → length all ≤ length (with_slot all s)
with-longer all s = go (list_any (same_slot s) all)
  where
    go : (b : Bool) → length all ≤ length (if b then all else all ++ s ∷ [])
    go true = omega arith
    go false = let e = length-append all (s ∷ []) in omega (arith, e)

row-longer : (xs ys : List Slot) →
    length (first_seen same_slot xs) ≤ length (first_seen same_slot (xs ++ ys))
row-longer xs [] = rw (append-nil xs) (omega arith)
row-longer xs (y ∷ ys) =
    let one : length (first_seen same_slot xs) ≤ length (first_seen same_slot (xs ++ y ∷ [])) =
    subst (λ (zs : List Slot). length (first_seen same_slot xs) ≤ length zs)
    (sym (first_seen-with xs y)) (with-longer (first_seen same_slot xs) y) in
    let rest : length (first_seen same_slot (xs ++ y ∷ []))
    ≤ length (first_seen same_slot (xs ++ y ∷ ys)) =
    subst (λ (zs : List Slot). length (first_seen same_slot (xs ++ y ∷ []))
    ≤ length (first_seen same_slot zs)) (append_assoc xs (y ∷ []) ys)
    (row-longer (xs ++ y ∷ []) ys) in
    omega (arith, one, rest)

nets-longer : (nets more : List RouteNet) →
    length (slots_of nets) ≤ length (slots_of (nets ++ more))
nets-longer nets [] = rw (append-nil nets) (omega arith)
nets-longer nets (net ∷ more) =
    let one : length (slots_of nets) ≤ length (slots_of (nets ++ net ∷ [])) =
    subst (λ (zs : List Slot). length (slots_of nets) ≤ length (first_seen same_slot zs))
    (sym (channel_slots-push nets net))
    (row-longer (channel_slots nets) (filter_map (elem_slot (length nets)) net.elems)) in
    let rest : length (slots_of (nets ++ net ∷ [])) ≤ length (slots_of (nets ++ net ∷ more)) =
    subst (λ (ns : List RouteNet). length (slots_of (nets ++ net ∷ [])) ≤ length (slots_of ns))
    (append_assoc nets (net ∷ []) more) (nets-longer (nets ++ net ∷ []) more) in
    omega (arith, one, rest)

-- ---- a channel that is new in its net brings a slot

-- slots of other nets are others
elems-other : (s : Slot) (n : ℕ) (elems : List Elem) → n < s.net →
    list_any (same_slot s) (filter_map (elem_slot n) elems) ≡ false
elems-other s n [] below = refl
elems-other s n (e ∷ elems) below = go (elem_cell e) (elems-other s n elems below)
  where
    go : (o : Option Cell) → list_any (same_slot s) (filter_map (elem_slot n) elems) ≡ false →
        list_any (same_slot s)
        (cons_option (option_map {T = Cell} {U = Slot} (λ cell. record { net = n; cell = cell }) o)
        (filter_map (elem_slot n) elems)) ≡ false
    go None rest = rest
    go (Some cell) rest =
        ap (λ (b : Bool). b && same_cell s.cell cell
        || list_any (same_slot s) (filter_map (elem_slot n) elems))
        (ne_eqb s.net n (λ same. omega (arith, same, below))) ∙ rest

nets-other : (s : Slot) (first : ℕ) (nets : List RouteNet) → first + length nets ≤ s.net →
    list_any (same_slot s)
    (flat_map (λ n. filter_map (elem_slot n.0) n.1.elems) (enumerate_from first nets)) ≡ false
nets-other s first [] within = refl
nets-other s first (net ∷ nets) within =
    list_any-append (same_slot s) (filter_map (elem_slot first) net.elems)
    (flat_map (λ n. filter_map (elem_slot n.0) n.1.elems) (enumerate_from (first + 1) nets))
    ∙ ap (λ (b : Bool). b || list_any (same_slot s)
    (flat_map (λ n. filter_map (elem_slot n.0) n.1.elems) (enumerate_from (first + 1) nets)))
    (elems-other s first net.elems (omega arith))
    ∙ nets-other s (first + 1) nets (omega arith)

-- the channels of an axis
abbrev along : Axis → ElemKind
along X = ChanX
along Y = ChanY

along-itself : (a : Axis) → same_kind (along a) (along a) ≡ true
along-itself X = refl
along-itself Y = refl

along-channel : (a : Axis) → is_channel (along a) ≡ true
along-channel X = refl
along-channel Y = refl

-- a line of a channel stands on the cell of its axis and place
record StandsOn (k : ElemKind) (a b : ℕ) (cell : Cell) : Type 0 where
  pub kind : k ≡ along cell.axis
  pub x : a ≡ cell.x
  pub y : b ≡ cell.y

stands-itself : (c cell : Cell) → c ≡ cell → StandsOn (along c.axis) c.x c.y cell
stands-itself c cell same = record {
  kind = ap (λ (z : Cell). along z.axis) same;
  x = ap (λ (z : Cell). z.x) same;
  y = ap (λ (z : Cell). z.y) same;
}

stands-on : (k : ElemKind) (a b : ℕ) (cell : Cell) → channel_at k a b ≡ Some cell
    → StandsOn k a b cell
stands-on ChanX a b cell h = stands-itself (record { axis = X; x = a; y = b }) cell (some_is h)
stands-on ChanY a b cell h = stands-itself (record { axis = Y; x = a; y = b }) cell (some_is h)
stands-on Source a b cell h = absurd (let clash : None ≡ Some cell = h in cc)
stands-on Opin a b cell h = absurd (let clash : None ≡ Some cell = h in cc)
stands-on Ipin a b cell h = absurd (let clash : None ≡ Some cell = h in cc)
stands-on Sink a b cell h = absurd (let clash : None ≡ Some cell = h in cc)

-- channel lines with tracks on one cell are equal
equal-lines : (e x : Elem) (cell : Cell) → elem_cell e ≡ Some cell → elem_cell x ≡ Some cell →
    (is_channel e.kind ≡ true → e.label ≡ Track) → (is_channel x.kind ≡ true → x.label ≡ Track) →
    same_elem e x ≡ true
equal-lines e x cell h g track other =
    let p = stands-on e.kind e.x e.y cell h in
    let q = stands-on x.kind x.x x.y cell g in
    let first : is_channel e.kind ≡ true = ap is_channel p.kind ∙ along-channel cell.axis in
    let second : is_channel x.kind ≡ true = ap is_channel q.kind ∙ along-channel cell.axis in
    let alike : same_kind e.kind x.kind ≡ same_kind (along cell.axis) (along cell.axis) =
    (λ i. same_kind (p.kind i) (q.kind i)) in
    let labels : same_label e.label x.label ≡ true =
    (λ i. same_label (track first i) (other second i)) in
    let place = and_from (e.x == x.x && e.y == x.y) (same_label e.label x.label)
    (and_from (e.x == x.x) (e.y == x.y) (eq-eqb e.x x.x (p.x ∙ sym q.x))
    (eq-eqb e.y x.y (p.y ∙ sym q.y))) labels in
    and_from (same_kind e.kind x.kind && same_place e x) (is_channel e.kind || e.number == x.number)
    (and_from (same_kind e.kind x.kind) (same_place e x) (alike ∙ along-itself cell.axis) place)
    (ap (λ (b : Bool). b || e.number == x.number) first)

module _ (n : ℕ) (e : Elem) (cell : Cell) (at : elem_cell e ≡ Some cell)
    (track : is_channel e.kind ≡ true → e.label ≡ Track) where
  abbrev brought : Slot
  brought = record { net = n; cell = cell }

  own-new : (before : List Elem) → AreTracks before → list_any (same_elem e) before ≡ false →
      list_any (same_slot brought) (filter_map (elem_slot n) before) ≡ false
  own-new [] tracks new = refl
  own-new (x ∷ before) tracks new =
      go (elem_cell x) refl (same_elem e x) refl new
      (own-new before (λ y i. tracks y (inr i)))
    where
      skip : (c : Cell) (b : Bool) → same_slot brought (record { net = n; cell = c }) ≡ b →
          elem_cell x ≡ Some c → same_elem e x ≡ false →
          list_any (same_slot brought) (filter_map (elem_slot n) before) ≡ false →
          (b || list_any (same_slot brought) (filter_map (elem_slot n) before)) ≡ false
      skip c false q there other rest = rest
      skip c true q there other rest = absurd (
          let same : brought ≡ record { net = n; cell = c }
          = same_slot-is brought (record { net = n; cell = c }) q in
          let one : cell ≡ c = ap (λ (s : Slot). s.cell) same in
          false≢true (sym other ∙ equal-lines e x cell at (there ∙ ap (λ (z : Cell). Some z)
          (sym one)) track (tracks x (inl refl)))
          )

      go : (o : Option Cell) → elem_cell x ≡ o → (b : Bool) → same_elem e x ≡ b →
          (b || list_any (same_elem e) before) ≡ false →
          (list_any (same_elem e) before ≡ false →
          list_any (same_slot brought) (filter_map (elem_slot n) before) ≡ false) →
          list_any (same_slot brought) (cons_option (option_map {T = Cell} {U = Slot}
          (λ c. record { net = n; cell = c }) o) (filter_map (elem_slot n) before)) ≡ false
      go o is true q h rest = absurd (false≢true (sym h))
      go None is false q h rest = rest h
      go (Some c) is false q h rest =
          skip c (same_slot brought (record { net = n; cell = c })) refl is q (rest h)

-- where so many slots stand before a channel that is new in its net, there is one more
module _ (earlier : List RouteNet) (net : RouteNet) (later : List RouteNet)
    (before : List Elem) (e : Elem) (after : List Elem)
    (whole : before ++ e ∷ after ≡ net.elems) (tracks : AreTracks before)
    (track : is_channel e.kind ≡ true → e.label ≡ Track) where
  abbrev front : List Slot
  front = channel_slots earlier ++ filter_map (elem_slot (length earlier)) before

  one-more : (cell : Cell) → elem_cell e ≡ Some cell → list_any (same_elem e) before ≡ false →
      length (first_seen same_slot front) < length (slots_of (earlier ++ net ∷ later))
  one-more cell at new =
      let s : Slot = record { net = length earlier; cell = cell } in
      let rest = filter_map (elem_slot (length earlier)) after in
      let none : list_any (same_slot s) (first_seen same_slot front) ≡ false =
      any-first_seen s front
      ∙ list_any-append (same_slot s) (channel_slots earlier)
      (filter_map (elem_slot (length earlier)) before)
      ∙ ap (λ (b : Bool). b || list_any (same_slot s)
      (filter_map (elem_slot (length earlier)) before))
      (nets-other s 0 earlier (omega arith))
      ∙ own-new (length earlier) e cell at track before tracks new in
      let added : first_seen same_slot (front ++ s ∷ []) ≡ first_seen same_slot front ++ s ∷ [] =
      first_seen-with front s
      ∙ ap (λ (b : Bool). if b then first_seen same_slot front
      else first_seen same_slot front ++ s ∷ []) none in
      let count = length-append (first_seen same_slot front) (s ∷ []) in
      let here : filter_map (elem_slot (length earlier)) net.elems
      ≡ filter_map (elem_slot (length earlier)) before ++ s ∷ rest =
      ap (filter_map (elem_slot (length earlier))) (sym whole)
      ∙ filter_map-append (elem_slot (length earlier)) before (e ∷ after)
      ∙ ap (λ (o : Option Cell). filter_map (elem_slot (length earlier)) before
      ++ cons_option (option_map {T = Cell} {U = Slot}
      (λ c. record { net = length earlier; cell = c }) o) rest) at in
      let all : channel_slots (earlier ++ net ∷ []) ≡ (front ++ s ∷ []) ++ rest =
      channel_slots-push earlier net
      ∙ ap (λ (zs : List Slot). channel_slots earlier ++ zs) here
      ∙ sym (append_assoc (channel_slots earlier)
      (filter_map (elem_slot (length earlier)) before) (s ∷ rest))
      ∙ sym (append_assoc front (s ∷ []) rest) in
      let longer : length (first_seen same_slot (front ++ s ∷ []))
      ≤ length (slots_of (earlier ++ net ∷ [])) =
      subst (λ (zs : List Slot). length (first_seen same_slot (front ++ s ∷ []))
      ≤ length (first_seen same_slot zs)) (sym all) (row-longer (front ++ s ∷ []) rest) in
      let last : length (slots_of (earlier ++ net ∷ []))
      ≤ length (slots_of (earlier ++ net ∷ later)) =
      subst (λ (ns : List RouteNet). length (slots_of (earlier ++ net ∷ []))
      ≤ length (slots_of ns)) (append_assoc earlier (net ∷ []) later)
      (nets-longer (earlier ++ net ∷ []) later) in
      omega (arith, ap length added, count, longer, last)

  -- by the test of its line
  past-more : (n : ℕ) → slots_past (context_of (record {
    earlier = earlier;
    net = net;
    before = before;
    elem = Some e;
    after = after;
  })) ≡ Some n → SLOT_LIMIT < length (slots_of (earlier ++ net ∷ later))
  past-more n past =
      let so_far : slots_of (earlier ++ record net { elems = before } ∷ [])
      ≡ first_seen same_slot front =
      ap (first_seen same_slot) (channel_slots-push earlier (record net { elems = before })) in
      let tests = told (is_channel e.kind) (list_any (same_elem e) before)
      (length (slots_of (earlier ++ record net { elems = before } ∷ [])) == SLOT_LIMIT) refl refl
      refl past in
      let there = cell-of e.kind tests.0 in
      let full : length (slots_of (earlier ++ record net { elems = before } ∷ [])) ≡ SLOT_LIMIT =
      (Decides-eqb (length (slots_of (earlier ++ record net { elems = before } ∷ []))) SLOT_LIMIT).0
      tests.2 in
      let more = one-more there.0 there.1 tests.1 in
      omega (arith, full, ap length so_far, more)
    where
      told : (c a f : Bool) → is_channel e.kind ≡ c → list_any (same_elem e) before ≡ a →
          (length (slots_of (earlier ++ record net { elems = before } ∷ [])) == SLOT_LIMIT) ≡ f →
          (if c && not a && f then Some (SLOT_LIMIT + 1) else None) ≡ Some n →
          (is_channel e.kind ≡ true) × (list_any (same_elem e) before ≡ false)
          × ((length (slots_of (earlier ++ record net { elems = before } ∷ [])) == SLOT_LIMIT)
          ≡ true)
      told true false true p q r h = (p, q, r)
      told true false false p q r h = absurd (let clash : None ≡ Some n = h in cc)
      told true true f p q r h = absurd (let clash : None ≡ Some n = h in cc)
      told false a f p q r h = absurd (let clash : None ≡ Some n = h in cc)

      cell-of : (k : ElemKind) → is_channel k ≡ true →
          (cell : Cell) × (channel_at k e.x e.y ≡ Some cell)
      cell-of ChanX h = (record { axis = X; x = e.x; y = e.y }, refl)
      cell-of ChanY h = (record { axis = Y; x = e.x; y = e.y }, refl)
      cell-of Source h = absurd (false≢true h)
      cell-of Opin h = absurd (false≢true h)
      cell-of Ipin h = absurd (false≢true h)
      cell-of Sink h = absurd (false≢true h)

-- ---- the line that is refused

first-in : (faults : Faults) (fault : TextFault) → IsFirst faults fault → In faults (Some fault)
first-in [] fault h = absurd (let clash : None ≡ Some fault = h in cc)
first-in (None ∷ more) fault h = inr (first-in more fault h)
first-in (Some f ∷ more) fault h = inl h

-- no other test of a line gives a limit
line-past : (p : RoutingProblem) (line : RouteLine) (code count : ℕ) →
    net_line_fault p line ≡ Some (Limit code count) →
    (n : ℕ) × (slots_past (context_of line) ≡ Some n)
line-past p line code count =
    let at = problem_context p line in
    let device = device_of p in
    go (is_unknown at) (is_repeated at) (is_other_source at) (is_other_sink at)
    (is_sink_not_once at) (is_other_pin device at) (is_pin_apart device at)
    (leaps p.route.grid at.route) (comes_again at.route) (starts_loose at.route) at.route.taken
    (is_out_of_order at.route) (slots_past (context_of line)) refl
  where
    n : ℕ
    n = line_number line

    bad : {P : Type 0} (m : ℕ) → Some (Bad n m) ≡ Some (Limit code count) → P
    bad m h = cc

    go : (a b c d e f g h i j k l : Bool) (o : Option ℕ) → slots_past (context_of line) ≡ o →
        option_or (if a then Some (Bad n 503) else if b then Some (Bad n 504)
        else if c then Some (Bad n 505) else if d then Some (Bad n 506)
        else if e then Some (Bad n 507) else if f then Some (Bad n 508)
        else if g then Some (Bad n 509) else None)
        (if h then Some (Bad n 510) else if i then Some (Bad n 511)
        else if j then Some (Bad n 512) else if k then Some (Bad n 513)
        else if l then Some (Bad n 514) else option_or (option_map (λ m. Limit 515 m) o) None)
        ≡ Some (Limit code count) → (m : ℕ) × (slots_past (context_of line) ≡ Some m)
    go true b c d e f g h i j k l o past is = bad 503 is
    go false true c d e f g h i j k l o past is = bad 504 is
    go false false true d e f g h i j k l o past is = bad 505 is
    go false false false true e f g h i j k l o past is = bad 506 is
    go false false false false true f g h i j k l o past is = bad 507 is
    go false false false false false true g h i j k l o past is = bad 508 is
    go false false false false false false true h i j k l o past is = bad 509 is
    go false false false false false false false true i j k l o past is = bad 510 is
    go false false false false false false false false true j k l o past is = bad 511 is
    go false false false false false false false false false true k l o past is = bad 512 is
    go false false false false false false false false false false true l o past is = bad 513 is
    go false false false false false false false false false false false true o past is =
        bad 514 is
    go false false false false false false false false false false false false (Some m) past is =
        (m, past)
    go false false false false false false false false false false false false None past is =
        absurd (let clash : None ≡ Some (Limit code count) = is in cc)

-- the line of an element of a net
abbrev line_of : List RouteNet → RouteNet → Place Elem → RouteLine
line_of earlier net s =
    record { earlier = earlier; net = net; before = s.0; elem = Some s.1; after = s.2 }

module _ (route : RouteText)
    (tracks : (net : RouteNet) → In route.nets net → AreTracks net.elems) where
  -- some line is one slot past the limit
  line-many : (line : RouteLine) (n : ℕ) → In (route_lines route) line →
      slots_past (context_of line) ≡ Some n → SLOT_LIMIT < length (slots route)
  line-many line n i past =
      let r = from_In-flat_map (λ (s : Place RouteNet). net_lines s.0 s.1) (splits route.nets) line
      i in
      let s : Place RouteNet = r.0 in
      elim r.2 [
        | inl head ↦ absurd (let clash : None ≡ Some n =
            subst (λ (l : RouteLine). slots_past (context_of l) ≡ Some n) (sym head) past in cc)
        | inr later ↦
            let t = from_In-map (line_of s.0 s.1) (splits s.1.elems) line later in
            let u : Place Elem = t.0 in
            let whole = splits-whole s.1.elems u t.1 in
            let nets = splits-whole route.nets s r.1 in
            let own = tracks s.1 (place-in route.nets s r.1) in
            subst (λ (ns : List RouteNet). SLOT_LIMIT < length (slots_of ns)) nets
            (past-more s.0 s.1 s.2 u.0 u.1 u.2 whole
            (λ x j. own x (subst (λ (es : List Elem). In es x) whole
            (In-append_left u.0 (u.1 ∷ u.2) x j)))
            (own u.1 (place-in s.1.elems u t.1)) n
            (subst (λ (l : RouteLine). slots_past (context_of l) ≡ Some n) (sym t.2) past))
      ]

-- a limit is the first fault only where there are more slots than may be
pub many-slots : (p : RoutingProblem) (code count : ℕ) →
    ((net : RouteNet) → In p.route.nets net → AreTracks net.elems) →
    IsFirst (problem_faults p) (Limit code count) → SLOT_LIMIT < length (slots p.route)
many-slots p code count tracks first =
    elim (first-in (problem_faults p) (Limit code count) first) [
      | inl array ↦ absurd (not-limit (same_size p.placement.grid p.route.grid) array)
      | inr more ↦ elim (In-append_cases (map (net_line_fault p) (route_lines p.route))
          (end_fault p ∷ []) (Some (Limit code count)) more) [
            | inl lines ↦
                let r = from_In-map (net_line_fault p) (route_lines p.route)
                (Some (Limit code count)) lines in
                let past = line-past p r.0 code count r.2 in
                line-many p.route tracks r.0 past.0 r.1 past.1
            | inr last ↦ elim last [
              | inl end ↦ absurd (not-end (lacks_net p) end)
              | inr none ↦ absurd none
            ]
          ]
    ]
  where
    not-limit : (b : Bool) → (if b then None else Some (Bad p.route.grid_line 501))
        ≡ Some (Limit code count) → ⊥
    not-limit true h = cc
    not-limit false h = cc

    not-end : (b : Bool) → (if b then Some (Bad (p.route.lines + 1) 502) else None)
        ≡ Some (Limit code count) → ⊥
    not-end true h = cc
    not-end false h = cc

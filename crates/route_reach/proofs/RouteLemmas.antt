-- The wires of a route that counts within a reach are a routing within it.
use Rattle.std.proofs.Common.{◌≡◌, ℕ, zero, suc, ◌-◌, ◌<◌, ◌≤◌, Bool, true, false, Option, Some, None, List, [], ◌∷◌, ◌++◌, length, take, drop, get_or, refl, sym, ap, subst, ◌∙◌, inl, inr, arith, length-append}
use Rattle.std.specs.Prelude.{◌&&◌, ◌||◌, ◌==◌, nat_lt, not, Contains, filter_map, map, slice_get, option_and_then, if◌then◌else◌}
use Rattle.std.specs.List.{last_or, list_all, list_any}
use Rattle.std.specs.Option.{option_map_or}
use Rattle.std.proofs.lemmas.Bool.{cases_lt, false≢true, ltb-true, not-false, or_parts}
use Rattle.std.proofs.lemmas.Bool.Decides.{nat_tests}
use Rattle.std.proofs.lemmas.List.{length-map}
use Rattle.std.proofs.lemmas.Option.{slice_get_within}
use Rattle.fpga_types.proofs.MeetingLemmas.{both_true}
use Rattle.list_laws.proofs.Members.{In, In-append_right, In-contains, In-filter_map, In-list_any, all-from_In, contains-In, from_In-filter, from_In-filter_map, list_any-from_In}
use Rattle.list_laws.proofs.Places.{In-place, find-first, get-In, get-before, get-map, get-taken, get-there, last-push, some_is, take-get}
use Rattle.fpga_graph.specs.GraphOf.{GraphOf}
use Rattle.fpga_graph.proofs.Apart.{IsApart, all_pairs-apart, apart-filter}
use Rattle.fpga_types.specs.Fit.{same_elem}
use Rattle.fpga_types.specs.Fits.{Fits, has_sink, lacks_sink}
use Rattle.fpga_types.specs.Kinds.{is_ipin, is_sink, is_source, may_follow}
use Rattle.fpga_types.specs.Problem.{RoutingProblem}
use Rattle.fpga_types.specs.Slots.{adjacent, elem_cell, elem_pin, first_seen}
use Rattle.fpga_types.specs.Sound.{IsSound}
use Rattle.fpga_types.specs.Terminals.{is_pin_at, is_terminal, named_terminal, sinks_named}
use Rattle.fpga_types.specs.declared.grid.PinAt.{PinAt}
use Rattle.fpga_types.specs.declared.grid.Wire.{Wire}
use Rattle.fpga_types.specs.declared.route.Elem.{Elem}
use Rattle.fpga_types.specs.declared.route.RouteNet.{RouteNet}
use Rattle.fpga_types.specs.declared.route.RouteText.{RouteText}
use Rattle.fpga_types.proofs.FitsLemmas.{Fits-line}
use Rattle.fpga_types.proofs.NameLaws.{name_itself}
use Rattle.fpga_bounds.specs.NetFit.{head_line}
use Rattle.fpga_bounds.proofs.LineLemmas.{elem_line}
use Rattle.route_reach.specs.Ends.{ins, outs, sink_pin}
use Rattle.route_reach.specs.Good.{IsReachRoute}
use Rattle.route_reach.specs.Reach.{IsReached, IsReachLegal, IsWiredNet}
use Rattle.route_reach.specs.Trees.{RoutesSayReached, UnsatSaysNoRoute, wires_of}
use Rattle.route_reach.proofs.Chains.{led-reached}
use Rattle.route_reach.proofs.DeepLemmas.{deep}
use Rattle.route_reach.proofs.ElemLemmas.{cell-equal, channel-wire, from-first_seen, on-wire, pin-equal}
use Rattle.route_reach.proofs.FoundLemmas.{first-source, fits-at, low, may-follow, ordinary, pin-second, pin-there, previous, quiet, routed, walk}
use Rattle.route_reach.proofs.ProblemExactness.{unsat-says-unreachable}
use Rattle.route_reach.proofs.QuietLines.{quiet-lines}
use Rattle.route_reach.proofs.NetSinks.{IsEnding, at-equal, before-ipin, before-sink, behind-ipin, ending, ipin-pin, last-place, no-source, one-terminal, sinks-equal, terminal-is}
use Rattle.route_verify.specs.Depths.{DeepLine, deep_line, deep_lines, same_tracked}
use Rattle.route_verify.specs.Judged.{graph_of}
use Rattle.route_verify.specs.Lines.{has_wire, is_on_wire, is_trace_named, is_wire_of, trace_named}
use Rattle.route_verify.specs.Reach.{depth_at_pin}
use Rattle.route_verify.specs.Wiring.{elem_wire, same_wire}
use Rattle.route_verify.proofs.FittingLine.{IsFitting, fitting}
use Rattle.route_verify.proofs.SlotWires.{same_wire-itself}
use Rattle.route_verify.proofs.TrackedLines.{elem-among, head-among}
use Rattle.route_verify.proofs.EqualLines.{same_elem-is}
use Rattle.route_verify.proofs.DepthLemmas.{deep-push}

-- first appearances stand once each
apart-first_seen : {T : Type 0} (same : T → T → Bool) → ((x : T) → same x x ≡ true) → (xs : List T)
    → IsApart (first_seen same xs)
apart-first_seen same itself [] = tt
apart-first_seen {T} same itself (x ∷ xs) = (
  (λ y i e. let kept = from_In-filter (λ z. not (same x z)) (first_seen same xs) y i in
      false≢true (sym (ap not (subst (λ (z : T). same x z ≡ true) e (itself x))) ∙ kept.1)),
  apart-filter (λ z. not (same x z)) (first_seen same xs) (apart-first_seen same itself xs),
)

-- what stands before the last of a list
but-last : {T : Type 0} (xs : List T) (x : T) → take (length (xs ++ x ∷ []) - 1) (xs ++ x ∷ []) ≡ xs
but-last {T} xs x =
    let count : length (xs ++ x ∷ []) - 1 ≡ length xs = omega (arith, length-append xs (x ∷ [])) in
    ap (λ (k : ℕ). take k (xs ++ x ∷ [])) count ∙ front xs
  where
    front : (ys : List T) → take (length ys) (ys ++ x ∷ []) ≡ ys
    front [] = refl
    front (y ∷ ys) = ap (λ (zs : List T). y ∷ zs) (front ys)

-- nothing is behind the end
none-behind : {T : Type 0} (xs : List T) (k : ℕ) → slice_get xs k ≡ None → drop k xs ≡ []
none-behind [] zero h = refl
none-behind [] (suc k) h = refl
none-behind (x ∷ xs) zero h = cc
none-behind (x ∷ xs) (suc k) h = none-behind xs k h

pub all-passes : {T : Type 0} (test : T → Bool) (xs : List T) (x : T) → list_all test xs ≡ true
    → In xs x → test x ≡ true
all-passes test [] x h i = absurd i
all-passes {T} test (y ∷ ys) x h i = elim i [
  | inl e ↦ ap test (sym e) ∙ (parts (test y) (list_all test ys) h).0
  | inr later ↦ all-passes test ys x (parts (test y) (list_all test ys) h).1 later
]
  where
    parts : (a b : Bool) → (a && b) ≡ true → (a ≡ true) × (b ≡ true)
    parts true b g = (refl, g)
    parts false b g = absurd (false≢true g)

module _ (width reach : ℕ) (p : RoutingProblem) (sound : IsSound p.route) (fits : Fits p)
    (found : RouteText) (good : IsReachRoute width reach p found) where
  abbrev g : GraphOf
  g = graph_of width p

  -- the lines of the global route fit
  pub head-fits : (n : ℕ) (net : RouteNet) → slice_get p.route.nets n ≡ Some net
      → IsFitting p (head_line (take n p.route.nets) net)
  head-fits n net here = fitting p (head_line (take n p.route.nets) net)
      (Fits-line p fits (head_line (take n p.route.nets) net) (head-among p.route.nets n net here))

  pub elem-fits : (n : ℕ) (net : RouteNet) (i : ℕ) (e : Elem) → slice_get p.route.nets n ≡ Some net
      → slice_get net.elems i ≡ Some e → IsFitting p (elem_line (take n p.route.nets) net i e)
  elem-fits n net i e here at = fitting p (elem_line (take n p.route.nets) net i e)
      (Fits-line p fits (elem_line (take n p.route.nets) net i e)
      (elem-among p.route.nets n net i e here at))

  module _ (n : ℕ) (net other : RouteNet) (here : slice_get p.route.nets n ≡ Some net)
      (there : slice_get found.nets n ≡ Some other) where
    abbrev elems : List Elem
    elems = other.elems

    named : other.name ≡ net.name
    named = (routed width reach p sound found good n net other here there).name

    -- ---- the sinks of the net

    -- a SINK line of the global route is at the pin before it
    ends-there : (i : ℕ) (x y : Elem) → slice_get net.elems i ≡ Some x
        → slice_get net.elems (suc i) ≡ Some y → is_ipin x.kind ≡ true → is_sink y.kind ≡ true
        → is_pin_at p.arch (named_terminal y) x ≡ true
    ends-there i x y at_x at_y ipin sink =
        let fit = elem-fits n net (suc i) y here at_y in
        let before : last_or None (take (suc i) net.elems) ≡ Some x =
        ap (last_or None) (take-get net.elems i x at_x) ∙ last-push None (take i net.elems) x in
        let moved = (or_parts _ _ fit.pin).1 in
        let test : not (is_pin_at p.arch (named_terminal y) x) ≡ false =
        sym ((λ k. is_sink y.kind && option_map_or (λ (b : Elem). is_ipin b.kind
        && not (is_pin_at p.arch (named_terminal y) b)) (before k) false)
        ∙ (λ k. sink k && (ipin k && not (is_pin_at p.arch (named_terminal y) x)))) ∙ moved in
        not-false _ test

    -- and so it is in the route
    ends-found : (i : ℕ) (x y : Elem) → slice_get elems i ≡ Some x
        → slice_get elems (suc i) ≡ Some y → is_ipin x.kind ≡ true → is_sink y.kind ≡ true
        → is_pin_at p.arch (named_terminal y) x ≡ true
    ends-found i x y at_x at_y ipin sink =
        let fit = fits-at width reach p sound found good n net other here there (suc i) y at_y in
        let before = previous width reach p sound found good n net other here there i x at_x in
        let moved = (or_parts _ _ fit.pin).1 in
        let test : not (is_pin_at p.arch (named_terminal y) x) ≡ false =
        sym ((λ k. is_sink y.kind && option_map_or (λ (b : Elem). is_ipin b.kind
        && not (is_pin_at p.arch (named_terminal y) b)) (before k) false)
        ∙ (λ k. sink k && (ipin k && not (is_pin_at p.arch (named_terminal y) x)))) ∙ moved in
        not-false _ test

    -- each sink of the net has a SINK line
    sinks-there : net.global ≡ false
        → list_all (has_sink elems) (sinks_named p other.name) ≡ true
    sinks-there global = elim (last-place elems) [
      | inl none ↦
          (let quiet_head = quiet-lines width reach p found good.legal
          (head_line (take n found.nets) other) (head-among found.nets n other there) in
          let lacks : not (list_all (has_sink []) (sinks_named p other.name)) ≡ false =
          sym (λ k. not (ordinary_here k) && length (none k) == 0
          && not (list_all (has_sink []) (sinks_named p other.name))) ∙ quiet_head.whole in
          ap (λ (es : List Elem). list_all (has_sink es) (sinks_named p other.name)) none
          ∙ not-false _ lacks)
      | inr r ↦
          (let quiet_last = quiet width reach p sound found good n net other here there r.0 r.1 r.2
          in
          let lacks : not (list_all (has_sink elems) (sinks_named p other.name)) ≡ false =
          sym ((λ k. not (ordinary_here k) && length (r.3 k) == 0
          && not (list_all (has_sink (take r.0 elems ++ r.1 ∷ [])) (sinks_named p other.name)))
          ∙ (λ k. not (list_all (has_sink (r.4 k)) (sinks_named p other.name))))
          ∙ quiet_last.whole in
          not-false _ lacks)
    ]
      where
        ordinary_here : other.global ≡ false
        ordinary_here =
            (routed width reach p sound found good n net other here there).global ∙ global

    -- a SINK line of the global route is that of its terminal
    same-sink : (i j : ℕ) (a b : Elem) → slice_get net.elems i ≡ Some a
        → slice_get net.elems j ≡ Some b → is_sink a.kind ≡ true → is_sink b.kind ≡ true
        → named_terminal a ≡ named_terminal b → i ≡ j
    same-sink i j a b at_a at_b sink_a sink_b same = elim (cases_lt i j) [
      | inl below ↦ absurd (twice i j a b at_a at_b below sink_b
          (sinks-equal b a sink_b sink_a (sym same)))
      | inr not_below ↦ elim (cases_lt j i) [
        | inl above ↦ absurd (twice j i b a at_b at_a above sink_a
            (sinks-equal a b sink_a sink_b same))
        | inr not_above ↦ omega arith
      ]
    ]
      where
        twice : (k l : ℕ) (c d : Elem) → slice_get net.elems k ≡ Some c
            → slice_get net.elems l ≡ Some d → k < l → is_sink d.kind ≡ true
            → same_elem d c ≡ true → ⊥
        twice k l c d at_c at_d low sink equal =
            let fit = elem-fits n net l d here at_d in
            let again : list_any (same_elem d) (take l net.elems) ≡ true =
            list_any-from_In (same_elem d) (take l net.elems) c
            (get-In (take l net.elems) k c (get-taken net.elems l k c low at_c)) equal in
            let once = (or_parts (is_sink d.kind && list_any (same_elem d) (take l net.elems))
            (lacks_sink p (elem_line (take n p.route.nets) net l d)) fit.once).0 in
            false≢true (sym once ∙ (λ m. sink m && again m))

    -- the line behind an IPIN of the global route is a SINK
    sink-behind : (i : ℕ) (x : Elem) → slice_get net.elems i ≡ Some x → is_ipin x.kind ≡ true
        → net.global ≡ false
        → (y : Elem) × (slice_get net.elems (suc i) ≡ Some y) × (is_sink y.kind ≡ true)
    sink-behind i x at ipin global = go (slice_get net.elems (suc i)) refl
      where
        go : (o : Option Elem) → slice_get net.elems (suc i) ≡ o → (y : Elem)
            × (slice_get net.elems (suc i) ≡ Some y) × (is_sink y.kind ≡ true)
        go None e =
            let fit = elem-fits n net i x here at in
            let order_test : Bool = not (option_map_or (λ (b : Elem). may_follow b.kind x.kind)
            (last_or None (take i net.elems)) (is_source x.kind)) in
            let both : (order_test || not (is_sink x.kind)) ≡ false =
            sym (λ k. not (global k) && (order_test
            || length (none-behind net.elems (suc i) e k) == 0 && not (is_sink x.kind)))
            ∙ fit.order in
            absurd (false≢true (sym (or_parts order_test (not (is_sink x.kind)) both).1
            ∙ ap not (ipin-pin x.kind ipin).2))
        go (Some y) e =
            let fit = elem-fits n net (suc i) y here e in
            let before : last_or None (take (suc i) net.elems) ≡ Some x =
            ap (last_or None) (take-get net.elems i x at) ∙ last-push None (take i net.elems) x in
            let rest : Bool = length (drop (suc (suc i)) net.elems) == 0 && not (is_sink y.kind) in
            let both : (not (may_follow x.kind y.kind) || rest) ≡ false =
            sym (λ k. not (global k) && (not (option_map_or
            (λ (b : Elem). may_follow b.kind y.kind) (before k) (is_source y.kind)) || rest))
            ∙ fit.order in (
              y,
              e,
              behind-ipin x.kind y.kind
                  (not-false _ (or_parts (not (may_follow x.kind y.kind)) rest both).0) ipin,
            )

    -- the IPIN line of a SINK line of the route is that of its terminal in the global route
    same-pin : (pin : PinAt) (end : IsEnding net.elems pin) (j : ℕ) (x y : Elem)
        → slice_get elems j ≡ Some x → slice_get elems (suc j) ≡ Some y
        → is_ipin x.kind ≡ true → is_sink y.kind ≡ true
        → named_terminal y ≡ named_terminal end.sink → elem_pin x ≡ Some pin
    same-pin pin end j x y at_x at_y ipin sink same =
        let global = ordinary width reach p sound found good n net other here there j x at_x in
        let kinds = ipin-pin x.kind ipin in
        let line = pin-there width reach p sound found good n net other here there j x at_x
        kinds.0 in
        let equal = same_elem-is x line.0 line.2 in
        let place = In-place net.elems line.0 line.1 in
        let ipin_line : is_ipin line.0.kind ≡ true = ap is_ipin (sym equal.kind) ∙ ipin in
        let behind = sink-behind place.0 line.0 place.1 ipin_line global in
        let at_y_there = at-equal p.arch (named_terminal y) x line.0 equal kinds.1
        (ends-found j x y at_x at_y ipin sink) in
        let terminals : named_terminal behind.0 ≡ named_terminal y =
        one-terminal p.arch (named_terminal behind.0) (named_terminal y) line.0
        (ends-there place.0 line.0 behind.0 place.1 behind.1 ipin_line behind.2) at_y_there in
        let places : suc place.0 ≡ suc end.place =
        same-sink (suc place.0) (suc end.place) behind.0 end.sink behind.1 end.next behind.2
        end.is_sink (terminals ∙ same) in
        let spot : place.0 ≡ end.place = omega (arith, places) in
        let lines : Some line.0 ≡ Some end.ipin =
        sym place.1 ∙ ap (slice_get net.elems) spot ∙ end.at in
        sym (pin-equal x line.0 line.2 kinds.1)
        ∙ ap (λ (e : Elem). elem_pin e) (some_is lines) ∙ end.has

    -- behind a channel line and an IPIN, a SINK is not past the reach
    short-at : (i : ℕ) (c x y : Elem) (d : ℕ) → slice_get elems i ≡ Some c
        → slice_get elems (suc i) ≡ Some x → slice_get elems (suc (suc i)) ≡ Some y
        → is_ipin x.kind ≡ true → is_sink y.kind ≡ true
        → (deep_line same_tracked (deep_lines same_tracked (take i elems)) c).depth ≡ Some d
        → d ≤ reach
    short-at i c x y d at_c at_x at_y ipin sink depth =
        let seen : List DeepLine = deep_lines same_tracked (take i elems) in
        let dc : DeepLine = deep_line same_tracked seen c in
        let dx : DeepLine = deep_line same_tracked (seen ++ dc ∷ []) x in
        let first : deep_lines same_tracked (take (suc i) elems) ≡ seen ++ dc ∷ [] =
        ap (deep_lines same_tracked) (take-get elems i c at_c)
        ∙ deep-push same_tracked (take i elems) c in
        let both : deep_lines same_tracked (take (suc (suc i)) elems)
        ≡ (seen ++ dc ∷ []) ++ dx ∷ [] =
        ap (deep_lines same_tracked) (take-get elems (suc i) x at_x)
        ∙ deep-push same_tracked (take (suc i) elems) x
        ∙ ap (λ (ls : List DeepLine). ls ++ deep_line same_tracked ls x ∷ []) first in
        let at_pin : depth_at_pin (deep_lines same_tracked (take (suc (suc i)) elems)) ≡ Some d =
        ap depth_at_pin both
        ∙ ap (λ (ls : List DeepLine). option_and_then (λ (l : DeepLine). l.depth) (last_or None ls))
        (but-last (seen ++ dc ∷ []) dx)
        ∙ ap (λ (o : Option DeepLine). option_and_then (λ (l : DeepLine). l.depth) o)
        (last-push None seen dc) ∙ depth in
        let before = previous width reach p sound found good n net other here there (suc i) x at_x
        in
        let past : nat_lt reach d ≡ false =
        sym ((λ k. is_sink y.kind
        && option_map_or (λ (b : Elem). is_ipin b.kind) (before k) false
        && option_map_or (λ e. nat_lt reach e) (at_pin k) false)
        ∙ (λ k. sink k && ipin k && nat_lt reach d))
        ∙ (quiet width reach p sound found good n net other here there (suc (suc i)) y at_y).short
        in
        at_most reach d past
      where
        at_most : (m k : ℕ) → nat_lt m k ≡ false → k ≤ m
        at_most m k h = grind (arith, nat_tests)

    -- so each sink is reached
    reached-by : (pin : PinAt) (j : ℕ) (x y : Elem) → slice_get elems j ≡ Some x
        → slice_get elems (suc j) ≡ Some y → is_ipin x.kind ≡ true → is_sink y.kind ≡ true
        → elem_pin x ≡ Some pin → IsReached g reach (outs net) (wires_of other) pin
    reached-by pin zero x y at_x at_y ipin sink has =
        absurd (false≢true (sym (no-source x.kind
        (first-source width reach p sound found good n net other here there x at_x)).0 ∙ ipin))
    reached-by pin (suc i) x y at_x at_y ipin sink has =
        let c = get-before elems i x at_x in
        let channel = before-ipin c.0.kind x.kind
        (may-follow width reach p sound found good n net other here there i c.0 x c.1 at_x) ipin in
        let w = channel-wire c.0 channel in
        let seen : List DeepLine = deep_lines same_tracked (take i elems) in
        let dc : DeepLine = deep_line same_tracked seen c.0 in
        let among : In (deep_lines same_tracked (take (suc i) elems)) dc =
        subst (λ (ls : List DeepLine). In ls dc)
        (sym (ap (deep_lines same_tracked) (take-get elems i c.0 c.1)
        ∙ deep-push same_tracked (take i elems) c.0)) (In-append_right seen (dc ∷ []) dc (inl refl))
        in
        let far = deep g (outs net) (wires_of other) same_tracked elem_wire elems
        (walk width reach p sound found good n net other here there) (suc i) dc among channel w.0
        w.1 in
        let short = short-at i c.0 x y far.depth c.1 at_x at_y ipin sink far.is in
        let reached = led-reached g (outs net) (wires_of other) w.0 far.depth pin far.led
        (pin-second width reach p sound found good n net other here there i c.0 x c.1 at_x pin w.0
        has w.1) in
        record {
          wires = reached.wires;
          few = omega (arith, reached.few, short);
          own = reached.own;
          joined = reached.joined;
          first = reached.first;
          first_is = reached.first_is;
          begins = reached.begins;
          last = reached.last;
          last_is = reached.last_is;
          ends = reached.ends;
        }

    sink-reached : (pin : PinAt) → In (ins net) pin
        → IsReached g reach (outs net) (wires_of other) pin
    sink-reached pin i = go net.global refl i
      where
        go : (b : Bool) → net.global ≡ b
            → In (if b then [] else filter_map sink_pin (adjacent net.elems)) pin
            → IsReached g reach (outs net) (wires_of other) pin
        go true global among = absurd among
        go false global among =
            let end = ending net.elems pin among in
            let fit = elem-fits n net (suc end.place) end.sink here end.next in
            let known : list_any (is_terminal end.sink) (sinks_named p net.name) ≡ true =
            not-false _ (sym (λ k. end.is_sink k
            && not (list_any (is_terminal end.sink) (sinks_named p net.name))) ∙ fit.sink) in
            let t = In-list_any (is_terminal end.sink) (sinks_named p net.name) known in
            let has : has_sink elems t.0 ≡ true =
            all-passes (has_sink elems) (sinks_named p net.name) t.0
            (sym (λ k. list_all (has_sink elems) (sinks_named p (named k))) ∙ sinks-there global)
            t.1 in
            let y = In-list_any (λ (e : Elem). is_sink e.kind && is_terminal e t.0) elems has in
            let kinds = both_true (is_sink y.0.kind) (is_terminal y.0 t.0) y.2 in
            let place = In-place elems y.0 y.1 in
            let same : named_terminal y.0 ≡ named_terminal end.sink =
            terminal-is y.0 t.0 kinds.1 ∙ sym (terminal-is end.sink t.0 t.2) in
            at place.0 place.1 kinds.0 end same
          where
            at : (j : ℕ) {y : Elem} → slice_get elems j ≡ Some y → is_sink y.kind ≡ true
                → (end : IsEnding net.elems pin) → named_terminal y ≡ named_terminal end.sink
                → IsReached g reach (outs net) (wires_of other) pin
            at zero {y} at_y sink end same =
                absurd (false≢true (sym (no-source y.kind
                (first-source width reach p sound found good n net other here there y at_y)).1
                ∙ sink))
            at (suc j) {y} at_y sink end same =
                let x = get-before elems j y at_y in
                let ipin = before-sink x.0.kind y.kind
                (may-follow width reach p sound found good n net other here there j x.0 y x.1 at_y)
                sink in
                reached-by pin j x.0 y x.1 at_y ipin sink
                (same-pin pin end j x.0 y x.1 at_y ipin sink same)

    -- ---- the wires of the net

    -- a wire of the net is that of a line
    on-a-line : (w : Wire) → In (wires_of other) w
        → (k : ℕ) × (e : Elem) × (slice_get elems k ≡ Some e) × (elem_wire e ≡ Some w)
    on-a-line w i =
        let made = from_In-filter_map elem_wire elems w
        (from-first_seen same_wire (filter_map elem_wire elems) w i) in
        let place = In-place elems made.0 made.1 in
        (place.0, made.0, place.1, made.2)

    pub trace : trace_named p.route.nets other.name ≡ net.elems
    trace = ap (trace_named p.route.nets) named
        ∙ ap (λ (o : Option RouteNet). option_map_or (λ (m : RouteNet). m.elems) o [])
        (find-first (is_trace_named net.name) p.route.nets n net here
        (head-fits n net here).first (name_itself net.name))

    in-trace : (w : Wire) → In (wires_of other) w
        → Contains (filter_map elem_cell net.elems) w.cell
    in-trace w i =
        let line = on-a-line w i in
        let on = on-wire line.1 w line.3 in
        let near = (quiet width reach p sound found good n net other here there line.0 line.1
        line.2).near in
        let among : list_any (same_elem line.1) net.elems ≡ true =
        not-false _ (sym (λ k. on.channel k && not (list_any (same_elem line.1) (trace k))) ∙ near)
        in
        let any = In-list_any (same_elem line.1) net.elems among in
        contains-In (filter_map elem_cell net.elems) w.cell
        (In-filter_map elem_cell net.elems any.0 w.cell any.1
        (cell-equal line.1 any.0 any.2 ∙ on.cell))

    pub net-wired : IsWiredNet g reach net (wires_of other)
    net-wired = record {
      once = all_pairs-apart (wires_of other)
          (apart-first_seen same_wire same_wire-itself (filter_map elem_wire elems));
      on_trace = all-from_In (λ (w : Wire). Contains (filter_map elem_cell net.elems) w.cell)
          (wires_of other) in-trace;
      within = all-from_In (λ (w : Wire). w.track < width) (wires_of other) (λ w i.
          let line = on-a-line w i in
          ltb-true _ _ (low width reach p sound found good n net other here there line.0 line.1 w
          line.2 line.3));
      reached = all-from_In (IsReached g reach (outs net) (wires_of other)) (ins net) sink-reached;
    }

  -- no two nets have one wire
  apart-nets : (m n : ℕ) (a b : RouteNet) (net : RouteNet) (w : Wire) → m < n
      → slice_get p.route.nets n ≡ Some net → slice_get found.nets m ≡ Some a
      → slice_get found.nets n ≡ Some b → In (wires_of a) w → In (wires_of b) w → ⊥
  apart-nets m n a b net w below here at_a at_b i j =
      let made = from_In-filter_map elem_wire a.elems w
      (from-first_seen same_wire (filter_map elem_wire a.elems) w i) in
      let line = on-a-line n net b here at_b w j in
      let has : has_wire a.elems w ≡ true =
      list_any-from_In (is_on_wire w) a.elems made.0 made.1
      (ap (λ (o : Option Wire). option_map_or (same_wire w) o false) made.2 ∙ same_wire-itself w) in
      let taken : is_wire_of (take n found.nets) w ≡ true =
      list_any-from_In (λ (net : RouteNet). has_wire net.elems w) (take n found.nets) a
      (get-In (take n found.nets) m a (get-taken found.nets n m a below at_a)) has in
      false≢true (sym (quiet width reach p sound found good n net b here at_b line.0 line.1
      line.2).alone
      ∙ ap (λ (o : Option Wire). option_map_or (is_wire_of (take n found.nets)) o false) line.3
      ∙ taken)

  pub net-at : (n : ℕ) (other : RouteNet) → slice_get found.nets n ≡ Some other
      → (net : RouteNet) × (slice_get p.route.nets n ≡ Some net)
  net-at n other there = go (slice_get p.route.nets n) refl
    where
      go : (o : Option RouteNet) → slice_get p.route.nets n ≡ o → (net : RouteNet)
          × (slice_get p.route.nets n ≡ Some net)
      go (Some net) e = (net, e)
      go None e = absurd (let inside : n < length p.route.nets =
          omega (arith, slice_get_within found.nets n other there, good.each) in
          let clash : None ≡ Some (get_or p.route.nets n other) =
          sym e ∙ get-there p.route.nets n (get_or p.route.nets n other) other inside refl in cc)

  pub found-legal : IsReachLegal width reach p (map wires_of found.nets)
  found-legal = record {
    each = length-map found.nets wires_of ∙ good.each;
    wired = λ n net set here is.
        let other = get-map wires_of found.nets n set is in
        subst (IsWiredNet g reach net) other.2 (net-wired n net other.0 here other.1);
    apart = λ m n first second w differ is_first is_second i j.
        let a = get-map wires_of found.nets m first is_first in
        let b = get-map wires_of found.nets n second is_second in
        let in_a = subst (λ (s : List Wire). In s w) (sym a.2) (In-contains first w i) in
        let in_b = subst (λ (s : List Wire). In s w) (sym b.2) (In-contains second w j) in
        let net_a = net-at m a.0 a.1 in
        let net_b = net-at n b.0 b.1 in
        elim (cases_lt m n) [
          | inl below ↦ apart-nets m n a.0 b.0 net_b.0 w below net_b.1 a.1 b.1 in_a in_b
          | inr not_below ↦ elim (cases_lt n m) [
            | inl above ↦ apart-nets n m b.0 a.0 net_a.0 w above net_a.1 b.1 a.1 in_b in_a
            | inr not_above ↦ differ (omega arith)
          ]
        ];
  }

pub routes-say-reached : (width reach : ℕ) (p : RoutingProblem) → IsSound p.route → Fits p
    → RoutesSayReached width reach p
routes-say-reached width reach p sound fits found good =
    found-legal width reach p sound fits found good

pub unsat-says-no_route : (width reach : ℕ) (p : RoutingProblem) → IsSound p.route → Fits p
    → UnsatSaysNoRoute width reach p
unsat-says-no_route width reach p sound fits none found good =
    (unsat-says-unreachable width reach p).0 none (map wires_of found.nets)
    (routes-say-reached width reach p sound fits found good)

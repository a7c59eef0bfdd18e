-- A routed file that nothing is against says a routing of its placement.
use Rattle.std.proofs.Common.{◌≡◌, ◌≢◌, ℕ, ◌<◌, Bool, true, false, Option, Some, None, List, [], take, get_or, refl, sym, ap, subst, inl, inr, ◌∙◌, arith}
use Rattle.std.specs.Prelude.{◌&&◌, ◌==◌, Any, bytes_eq, not, slice_get}
use Rattle.std.specs.List.{list_any}
use Rattle.std.specs.Option.{option_map_or}
use Rattle.std.proofs.lemmas.Bool.{cases_lt, eq-eqb, false≢true}
use Rattle.std.proofs.lemmas.Option.{slice_get-get_or}
use Rattle.list_laws.proofs.Members.{In, In-contains, all-from_In, any-from_In, from_In-filter_map, list_any-from_In}
use Rattle.list_laws.proofs.Places.{In-place, find-first, get-In, get-taken}
use Rattle.fpga_text.specs.Bytes.{Bytes}
use Rattle.fpga_text.specs.FirstFault.{IsFaultless, first_fault}
use Rattle.fpga_types.specs.Fit.{same_pin}
use Rattle.fpga_types.specs.Fits.{is_known}
use Rattle.fpga_types.specs.Kinds.{is_pin, same_label}
use Rattle.fpga_types.specs.Placed.{IsPlacedRouting, NetWires, net_pins}
use Rattle.fpga_types.specs.Problem.{PlacedNetlist, RoutingProblem}
use Rattle.fpga_types.specs.Slots.{elem_pin, labelled_pin, pin_at}
use Rattle.fpga_types.specs.Sound.{IsSound}
use Rattle.fpga_types.specs.Terminals.{sinks_in}
use Rattle.fpga_types.specs.declared.grid.PinAt.{PinAt}
use Rattle.fpga_types.specs.declared.grid.PinAt.TheVariants.{Pad as PadAt, Pin as PinOf}
use Rattle.fpga_types.specs.declared.grid.Wire.{Wire}
use Rattle.fpga_types.specs.declared.netlist.Net.{Net}
use Rattle.fpga_types.specs.declared.problem.Terminal.{Terminal}
use Rattle.fpga_types.specs.declared.route.Elem.{Elem}
use Rattle.fpga_types.specs.declared.route.ElemKind.{ElemKind}
use Rattle.fpga_types.specs.declared.route.ElemKind.TheVariants.{Source, Opin, ChanX, ChanY, Ipin, Sink}
use Rattle.fpga_types.specs.declared.route.Label.{Label}
use Rattle.fpga_types.specs.declared.route.Label.TheVariants.{Class, Pin, Pad, Track}
use Rattle.fpga_types.specs.declared.route.RouteNet.{RouteNet}
use Rattle.fpga_types.specs.declared.route.RouteText.{RouteText}
use Rattle.fpga_types.proofs.NameLaws.{name_itself}
use Rattle.route_judge.specs.Judged.{placed_judged, placed_route_causes, problem_with}
use Rattle.route_judge.specs.Says.{AreNetsOf, HasOwnEnds, IsOnLines, IsTreeTo, SaysRouting}
use Rattle.route_judge.proofs.CauseLemmas.{first-is-cause}
use Rattle.route_judge.proofs.CleanLines.{known, lone-pin, lone-wire, new}
use Rattle.route_judge.proofs.NetRoutings.{IsNetSaid, net-said, same-net}
use Rattle.route_judge.proofs.TreeLemmas.{tree}
use Rattle.route_verify.specs.Lines.{has_wire, is_on_wire, is_trace_named, trace_named}
use Rattle.route_verify.specs.Wiring.{elem_wire, same_wire}
use Rattle.route_verify.specs.declared.judgement.Judgement.TheVariants.{Legal}
use Rattle.route_verify.proofs.LimitLemmas.{legal-exactly}
use Rattle.route_verify.proofs.SlotWires.{same_wire-itself}

-- two pin lines of one pin
same-labelled : (pin : PinAt) (l m : Label) (x y n u v k : ℕ) → labelled_pin l x y n ≡ Some pin
    → labelled_pin m u v k ≡ Some pin
    → (x == u && y == v && same_label l m && n == k) ≡ true
same-labelled pin Pin Pin x y n u v k first second =
    let same : PinOf x y n ≡ PinOf u v k = cc in
    let e : x ≡ u = cc in
    let f : y ≡ v = cc in
    let h : n ≡ k = cc in
    rw (eq-eqb x u e, eq-eqb y v f, eq-eqb n k h) refl
same-labelled pin Pad Pad x y n u v k first second =
    let same : PadAt x y n ≡ PadAt u v k = cc in
    let e : x ≡ u = cc in
    let f : y ≡ v = cc in
    let h : n ≡ k = cc in
    rw (eq-eqb x u e, eq-eqb y v f, eq-eqb n k h) refl
same-labelled pin Pin Pad x y n u v k first second = cc
same-labelled pin Pad Pin x y n u v k first second = cc
same-labelled pin Class m x y n u v k first second = cc
same-labelled pin Track m x y n u v k first second = cc
same-labelled pin l Class x y n u v k first second = cc
same-labelled pin l Track x y n u v k first second = cc

pin-line : (e : Elem) (pin : PinAt) → elem_pin e ≡ Some pin
    → (is_pin e.kind ≡ true) × (labelled_pin e.label e.x e.y e.number ≡ Some pin)
pin-line e pin is = go e.kind is
  where
    go : (k : ElemKind) → pin_at k e ≡ Some pin
        → (is_pin k ≡ true) × (labelled_pin e.label e.x e.y e.number ≡ Some pin)
    go Opin h = (refl, h)
    go Ipin h = (refl, h)
    go Source h = cc
    go ChanX h = cc
    go ChanY h = cc
    go Sink h = cc

same-pins : (a b : Elem) (pin : PinAt) → elem_pin a ≡ Some pin → elem_pin b ≡ Some pin
    → same_pin a b ≡ true
same-pins a b pin first second =
    let one = pin-line a pin first in
    let two = pin-line b pin second in
    rw (one.0, two.0)
    (same-labelled pin a.label b.label a.x a.y a.number b.x b.y b.number one.1 two.1)

-- a net with this number is there, and ordinary
ordinary-there : (nets : List Net) (number : ℕ)
    → option_map_or (λ (net : Net). not net.global) (slice_get nets number) false ≡ true
    → (net : Net) × (slice_get nets number ≡ Some net) × (net.global ≡ false)
ordinary-there nets number is = go (slice_get nets number) refl is
  where
    plain : (b : Bool) → not b ≡ true → b ≡ false
    plain false h = refl
    plain true h = absurd (false≢true h)

    go : (o : Option Net) → slice_get nets number ≡ o
        → option_map_or (λ (net : Net). not net.global) o false ≡ true
        → (net : Net) × (slice_get nets number ≡ Some net) × (net.global ≡ false)
    go None there h = absurd (false≢true h)
    go (Some net) there h = (net, there, plain net.global h)

module _ (strict : Bool) (width : ℕ) (placed : PlacedNetlist) (found : RouteText)
    (sound : IsSound found) (own : HasOwnEnds placed)
    (legal : placed_judged strict width placed found ≡ Legal) where
  abbrev p : RoutingProblem
  p = problem_with placed found

  clean : IsFaultless (placed_route_causes strict width p)
  clean = (legal-exactly (first_fault (placed_route_causes strict width p))
      (first-is-cause strict width p)).0 legal

  abbrev nothing : NetWires
  nothing = record { wires = []; ways = [] }

  -- what each net has; nothing, if it is global
  each : (number : ℕ) → (w : NetWires) × ((net : Net)
      → slice_get placed.netlist.nets number ≡ Some net → net.global ≡ false
      → IsNetSaid placed width found net w)
  each number = go (slice_get placed.netlist.nets number) refl
    where
      plain : (net : Net) → slice_get placed.netlist.nets number ≡ Some net → (b : Bool)
          → net.global ≡ b → (w : NetWires) × ((other : Net)
          → slice_get placed.netlist.nets number ≡ Some other → other.global ≡ false
          → IsNetSaid placed width found other w)
      plain net here true is = (
        nothing,
        λ other there ordinary.
            let same : net ≡ other = cc in
            absurd (false≢true (sym ordinary ∙ sym (ap (λ (n : Net). n.global) same) ∙ is)),
      )
      plain net here false is =
          let said = net-said strict width placed found sound own clean number net here is in (
            said.0,
            λ other there ordinary.
                let same : net ≡ other = cc in
                subst (λ (n : Net). IsNetSaid placed width found n said.0) same said.1,
          )

      go : (o : Option Net) → slice_get placed.netlist.nets number ≡ o
          → (w : NetWires) × ((net : Net) → slice_get placed.netlist.nets number ≡ Some net
          → net.global ≡ false → IsNetSaid placed width found net w)
      go None none = (nothing, λ net here ordinary. absurd (let clash : None ≡ Some net = cc in cc))
      go (Some net) here = plain net here net.global refl

  abbrev has : ℕ → NetWires
  has number = (each number).0

  -- two nets of the file at one place are one
  one-place : (a b : Net) (v w : NetWires) (s : IsNetSaid placed width found a v)
      (t : IsNetSaid placed width found b w) → s.at ≡ t.at → a.name ≡ b.name
  one-place a b v w s t same =
      let nets : Some s.traced ≡ Some t.traced =
      sym s.here ∙ ap (slice_get found.nets) same ∙ t.here in
      let one : s.traced ≡ t.traced = cc in
      sym s.name ∙ ap (λ (r : RouteNet). r.name) one ∙ t.name

  -- a wire of two nets, the one before the other
  wire-clash : (a b : Net) (v w : NetWires) (s : IsNetSaid placed width found a v)
      (t : IsNetSaid placed width found b w) → s.at < t.at → (wire : Wire) → In v.wires wire
      → In w.wires wire → ⊥
  wire-clash a b v w s t before wire first second =
      let early = from_In-filter_map elem_wire s.traced.elems wire
      (subst (λ (ws : List Wire). In ws wire) s.wires first) in
      let late = from_In-filter_map elem_wire t.traced.elems wire
      (subst (λ (ws : List Wire). In ws wire) t.wires second) in
      let spot = In-place t.traced.elems late.0 late.1 in
      let on : is_on_wire wire early.0 ≡ true =
      ap (λ (o : Option Wire). option_map_or (same_wire wire) o false) early.2
      ∙ same_wire-itself wire in
      let among : In (take t.at found.nets) s.traced =
      get-In (take t.at found.nets) s.at s.traced
      (get-taken found.nets t.at s.at s.traced before s.here) in
      false≢true (sym (lone-wire strict width p clean t.at t.traced t.here spot.0 late.0 spot.1
      wire late.2)
      ∙ list_any-from_In (λ (net : RouteNet). has_wire net.elems wire) (take t.at found.nets)
      s.traced among
      (list_any-from_In (is_on_wire wire) s.traced.elems early.0 early.1 on))

  -- a pin of two nets, the one before the other
  pin-clash : (a b : Net) (v w : NetWires) (s : IsNetSaid placed width found a v)
      (t : IsNetSaid placed width found b w) → s.at < t.at → (pin : PinAt) → In (net_pins v) pin
      → In (net_pins w) pin → ⊥
  pin-clash a b v w s t before pin first second =
      let early = s.pins pin first in
      let late = t.pins pin second in
      let spot = In-place t.traced.elems late.0 late.1 in
      let among : In (take t.at found.nets) s.traced =
      get-In (take t.at found.nets) s.at s.traced
      (get-taken found.nets t.at s.at s.traced before s.here) in
      false≢true (sym (lone-pin strict width p clean t.at t.traced t.here spot.0 late.0 spot.1)
      ∙ list_any-from_In (λ (net : RouteNet). list_any (same_pin late.0) net.elems)
      (take t.at found.nets) s.traced among
      (list_any-from_In (same_pin late.0) s.traced.elems early.0 early.1
      (same-pins late.0 early.0 pin late.2 early.2)))

  -- of two nets one stands before the other
  apart : (a b : ℕ) → a ≢ b → (net other : Net)
      → slice_get placed.netlist.nets a ≡ Some net
      → slice_get placed.netlist.nets b ≡ Some other
      → (s : IsNetSaid placed width found net (has a))
      → (t : IsNetSaid placed width found other (has b)) → (s.at < t.at → ⊥)
      → (t.at < s.at → ⊥) → ⊥
  apart a b different net other here there s t not_before not_behind =
      elim (cases_lt s.at t.at) [
        | inl before ↦ not_before before
        | inr first ↦ elim (cases_lt t.at s.at) [
          | inl behind ↦ not_behind behind
          | inr second ↦
              let same : s.at ≡ t.at = omega (arith, first, second) in
              different (same-net strict width placed found sound own clean a b net other here there
              (one-place net other (has a) (has b) s t same))
        ]
      ]

  routing : IsPlacedRouting placed width has
  routing = record {
    routed = λ number net here ordinary. ((each number).1 net here ordinary).routed;
    wires = λ a b different first second wire of_a of_b.
        let net = ordinary-there placed.netlist.nets a first in
        let other = ordinary-there placed.netlist.nets b second in
        let s = (each a).1 net.0 net.1 net.2 in
        let t = (each b).1 other.0 other.1 other.2 in
        let one = In-contains (has a).wires wire of_a in
        let two = In-contains (has b).wires wire of_b in
        apart a b different net.0 other.0 net.1 other.1 s t
        (λ before. wire-clash net.0 other.0 (has a) (has b) s t before wire one two)
        (λ behind. wire-clash other.0 net.0 (has b) (has a) t s behind wire two one);
    pins = λ a b different first second pin of_a of_b.
        let net = ordinary-there placed.netlist.nets a first in
        let other = ordinary-there placed.netlist.nets b second in
        let s = (each a).1 net.0 net.1 net.2 in
        let t = (each b).1 other.0 other.1 other.2 in
        let one = In-contains (net_pins (has a)) pin of_a in
        let two = In-contains (net_pins (has b)) pin of_b in
        apart a b different net.0 other.0 net.1 other.1 s t
        (λ before. pin-clash net.0 other.0 (has a) (has b) s t before pin one two)
        (λ behind. pin-clash other.0 net.0 (has b) (has a) t s behind pin two one);
  }

  nets : AreNetsOf placed found
  nets = record {
    known = all-from_In (λ (net : RouteNet). is_known p net.name net.global ≡ true) found.nets
        (λ net among. let place = In-place found.nets net among in
        known strict width p clean place.0 net place.1);
    once = λ i j d before inside same.
        let early : RouteNet = get_or found.nets i d in
        let late : RouteNet = get_or found.nets j d in
        let first : slice_get found.nets i ≡ Some early =
        slice_get-get_or found.nets i d (omega (arith, before, inside)) in
        let second : slice_get found.nets j ≡ Some late = slice_get-get_or found.nets j d inside in
        false≢true (sym (new strict width p clean j late second)
        ∙ list_any-from_In (λ (n : RouteNet). bytes_eq n.name late.name) (take j found.nets) early
        (get-In (take j found.nets) i early (get-taken found.nets j i early before first))
        (ap (λ (name : Bytes). bytes_eq name late.name) same ∙ name_itself late.name));
  }

  -- the net of the file with the name is found
  trace : (net : Net) (w : NetWires) (s : IsNetSaid placed width found net w)
      → s.traced.elems ≡ trace_named found.nets net.name
  trace net w s =
      let name : Bytes = s.traced.name in
      let found_there : trace_named found.nets name ≡ s.traced.elems =
      ap (λ (o : Option RouteNet). option_map_or (λ (r : RouteNet). r.elems) o [])
      (find-first (is_trace_named name) found.nets s.at s.traced s.here
      (new strict width p clean s.at s.traced s.here) (name_itself name)) in
      sym found_there ∙ ap (trace_named found.nets) s.name

  on-lines : (net : Net) (w : NetWires) → IsNetSaid placed width found net w
      → IsOnLines (trace_named found.nets net.name) w
  on-lines net w s = subst (λ (es : List Elem). IsOnLines es w) (trace net w s) (record {
    wires = s.wires;
    pins = all-from_In
        (λ (pin : PinAt). Any (λ (e : Elem). elem_pin e ≡ Some pin) s.traced.elems)
        (net_pins w) (λ pin among.
        let line = s.pins pin among in
        any-from_In (λ (e : Elem). elem_pin e ≡ Some pin) s.traced.elems line.0 line.1
        line.2);
  })

  in-tree : (net : Net) (w : NetWires) → IsNetSaid placed width found net w
      → IsTreeTo (sinks_in placed net) (trace_named found.nets net.name)
  in-tree net w s = subst (IsTreeTo (sinks_in placed net)) (trace net w s)
      (subst (λ (sinks : List Terminal). IsTreeTo sinks s.traced.elems) s.sinks
      (tree strict width p sound clean s.at s.traced s.here s.plain))

  pub says : (has : ℕ → NetWires) × SaysRouting placed width found has
  says = (
    has,
    record {
      routing = routing;
      nets = nets;
      trees = λ number net here ordinary.
          in-tree net (has number) ((each number).1 net here ordinary);
      lines = λ number net here ordinary.
          on-lines net (has number) ((each number).1 net here ordinary);
    },
  )

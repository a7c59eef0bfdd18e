-- The lines of one net of a routed file, where they are those of a tree: switches lead from the
-- driver to the wire of each channel line, and to each sink.
use Rattle.std.proofs.Common.{◌≡◌, ℕ, zero, suc, ◌≢◌, ◌<◌, Bool, true, false, length, Option, Some, None, List, [], ◌∷◌, ◌++◌, take, refl, sym, ap, subst, inl, inr, ◌∙◌, arith}
use Rattle.std.specs.Prelude.{◌&&◌, ◌||◌, ◌==◌, AllPairs, filter_map, map, nat_lt, not, slice_get, zip}
use Rattle.std.specs.List.{last_or}
use Rattle.std.specs.Option.{option_map_or}
use Rattle.std.proofs.lemmas.Bool.{eqb-true, false≢true, not-false, or_parts}
use Rattle.std.proofs.lemmas.List.Kept.{AllPairs-cons}
use Rattle.list_laws.proofs.Members.{In, In-append_cases, In-filter_map, In-list_any, all-from_In, contains-In, from_In-map}
use Rattle.list_laws.proofs.Places.{In-place, get-In, get-before, get-take, last-push, take-get}
use Rattle.fpga_graph.specs.GraphOf.{GraphOf}
use Rattle.fpga_types.specs.Boxes.{opens}
use Rattle.fpga_types.specs.Fits.{has_sink}
use Rattle.fpga_types.specs.Kinds.{is_ipin, is_opin, is_sink, is_source, may_follow}
use Rattle.fpga_types.specs.Placed.{AreInTurn, OpensWire, Way, is_terminal_pin, last_wire}
use Rattle.fpga_types.specs.Slots.{elem_pin}
use Rattle.fpga_types.specs.Terminals.{is_ordinary, is_ordinary_pin_at, is_pin_at, is_terminal, named_terminal}
use Rattle.fpga_types.specs.Touching.{touches}
use Rattle.fpga_types.specs.Tracks.{AreJoined, mapped_track, track_across}
use Rattle.fpga_types.specs.declared.grid.PinAt.{PinAt}
use Rattle.fpga_types.specs.declared.grid.Wire.{Wire}
use Rattle.fpga_types.specs.declared.problem.Terminal.{Terminal}
use Rattle.fpga_types.specs.declared.route.Elem.{Elem}
use Rattle.fpga_types.proofs.BoxLemmas.{opens-is, touches-is}
use Rattle.fpga_types.proofs.MeetingLemmas.{across-joined, both_true}
use Rattle.route_judge.proofs.KindLemmas.{before-channel, before-ipin, before-sink, channel-wire, ipin-no-source, ipin-pin, no-source, on-wire, one-terminal, opin-pin, sink-no-source, terminal-is, wire-channel}
use Rattle.route_verify.specs.Lines.{has_wire, is_on_wire}
use Rattle.route_verify.specs.Wiring.{are_joined, are_parted, are_unconnected, elem_wire, is_past_width, misses, reaches}

-- one more wire in turn
last-more : (u v : Wire) (rest : List Wire) → last_wire u (rest ++ v ∷ []) ≡ v
last-more u v [] = refl
last-more u v (w ∷ rest) = last-more w v rest

turn-more : (joins : Wire → Wire → Type 0) (u v : Wire) (rest : List Wire)
    → AreInTurn joins u rest → joins (last_wire u rest) v → AreInTurn joins u (rest ++ v ∷ [])
turn-more joins u v [] turn joined = (joined, tt)
turn-more joins u v (w ∷ rest) turn joined = (turn.0, turn-more joins w v rest turn.1 joined)

-- the line may stand behind these in a net with this driver: after what stands before it, and
-- connected with that; its track below the width; an OPIN at the driver, an IPIN at an input, a
-- SINK at the IPIN before it; and a channel behind a SINK on a wire that stood before
pub record IsTreeLine (g : GraphOf) (driver : Option Terminal) (inputs : Elem → Bool)
    (before : List Elem) (e : Elem) : Type 0 where
  pub order : option_map_or (λ (d : Elem). may_follow d.kind e.kind) (last_or None before)
      (is_source e.kind) ≡ true
  pub connected : are_unconnected g (last_or None before) (Some e) ≡ false
  pub low : is_past_width g (Some e) ≡ false
  pub opin : is_opin e.kind ≡ true
      → option_map_or (λ at. is_ordinary_pin_at g.arch at e) driver false ≡ true
  pub ipin : is_ipin e.kind ≡ true → inputs e ≡ true
  pub sink : is_sink e.kind ≡ true → (d : Elem) → last_or None before ≡ Some d
      → is_ipin d.kind ≡ true → is_pin_at g.arch (named_terminal e) d ≡ true
  pub branch : (d : Elem) → last_or None before ≡ Some d → is_sink d.kind ≡ true → (w : Wire)
      → elem_wire e ≡ Some w → has_wire before w ≡ true

module _ (g : GraphOf) (driver : Option Terminal) (inputs : Elem → Bool)
    (ordinary : (e : Elem) → inputs e ≡ true → is_ordinary g.arch e.label e.number ≡ true)
    (elems : List Elem)
    (tree : (k : ℕ) (e : Elem) → slice_get elems k ≡ Some e
    → IsTreeLine g driver inputs (take k elems) e) where
  abbrev joins : Wire → Wire → Type 0
  joins = AreJoined (mapped_track g.arch.pattern g.width) g.grid

  abbrev wires : List Wire
  wires = filter_map elem_wire elems

  -- the line before the first, and before another
  nothing-before : (es : List Elem) → last_or None (take 0 es) ≡ None
  nothing-before [] = refl
  nothing-before (e ∷ es) = refl

  before : (j : ℕ) (d : Elem) → slice_get elems j ≡ Some d
      → last_or None (take (suc j) elems) ≡ Some d
  before j d at = ap (last_or None) (take-get elems j d at) ∙ last-push None (take j elems) d

  first : (e : Elem) → slice_get elems 0 ≡ Some e → is_source e.kind ≡ true
  first e at =
      sym (ap (λ (o : Option Elem). option_map_or (λ (d : Elem). may_follow d.kind e.kind) o
      (is_source e.kind)) (nothing-before elems)) ∙ (tree 0 e at).order

  module _ (j : ℕ) (d e : Elem) (here : slice_get elems j ≡ Some d)
      (there : slice_get elems (suc j) ≡ Some e) where
    follows : may_follow d.kind e.kind ≡ true
    follows = sym (ap (λ (o : Option Elem). option_map_or
        (λ (d : Elem). may_follow d.kind e.kind) o (is_source e.kind)) (before j d here))
        ∙ (tree (suc j) e there).order

    linked : (are_parted g (elem_wire d) (elem_wire e) || misses g (elem_pin d) (elem_wire e)
        || misses g (elem_pin e) (elem_wire d)) ≡ false
    linked = sym (ap (λ (o : Option Elem). are_unconnected g o (Some e)) (before j d here))
        ∙ (tree (suc j) e there).connected

  -- the tracks are below the width
  low : (k : ℕ) (e : Elem) (w : Wire) → slice_get elems k ≡ Some e → elem_wire e ≡ Some w
      → nat_lt w.track g.width ≡ true
  low k e w at is = not-false (nat_lt w.track g.width)
      (sym (ap (λ (o : Option Wire). option_map_or
      (λ (wire : Wire). not (nat_lt wire.track g.width)) o false) is) ∙ (tree k e at).low)

  -- what is not missed is opened, and what is not parted is joined
  opened : (pin : PinAt) (w : Wire) → nat_lt w.track g.width ≡ true
      → misses g (Some pin) (Some w) ≡ false → OpensWire g.arch g.grid g.width pin w
  opened pin w within hit =
      let reached : reaches g pin w ≡ true = not-false (reaches g pin w)
      (sym (ap (λ (b : Bool). b && not (reaches g pin w)) within) ∙ hit) in
      let parts = both_true (touches g.arch g.grid pin w.cell) (opens g.arch g.width pin w.track)
      reached in
      record {
        touches = (touches-is g.arch g.grid pin w.cell).0 parts.0;
        opens = (opens-is g.arch g.width pin w.track).0 parts.1;
      }

  across : (o : Option ℕ) (t : ℕ) → option_map_or (λ m. m == t) o false ≡ true → o ≡ Some t
  across None t is = absurd (false≢true is)
  across (Some m) t is = ap (λ (k : ℕ). Some k) (eqb-true m t is)

  joined : (u v : Wire) → nat_lt u.track g.width ≡ true → nat_lt v.track g.width ≡ true
      → are_parted g (Some u) (Some v) ≡ false → joins u v
  joined u v first second whole =
      let meet : are_joined g u v ≡ true = not-false (are_joined g u v)
      (sym (λ k. first k && second k && not (are_joined g u v)) ∙ whole) in
      across-joined (mapped_track g.arch.pattern g.width) g.grid u v
      (across (track_across (mapped_track g.arch.pattern g.width) g.grid u.cell v.cell u.track)
      v.track meet)

  -- switches lead from the driver to the wire
  pub record Lead (w : Wire) : Type 0 where
    pub line : Elem
    pub among : In elems line
    pub leaves : PinAt
    pub pin : elem_pin line ≡ Some leaves
    pub at : Terminal
    pub drives : driver ≡ Some at
    pub from : is_terminal_pin g.arch at leaves ≡ true
    pub first : Wire
    pub rest : List Wire
    pub starts : OpensWire g.arch g.grid g.width leaves first
    pub turn : AreInTurn joins first rest
    pub last : last_wire first rest ≡ w
    pub own : (v : Wire) → In (first ∷ rest) v → In wires v

  own-wire : (k : ℕ) (e : Elem) (w : Wire) → slice_get elems k ≡ Some e → elem_wire e ≡ Some w
      → In wires w
  own-wire k e w at is = In-filter_map elem_wire elems e w (get-In elems k e at) is

  -- to a wire behind an OPIN
  begun : (j : ℕ) (d e : Elem) (w : Wire) → slice_get elems j ≡ Some d
      → slice_get elems (suc j) ≡ Some e → is_opin d.kind ≡ true → elem_wire e ≡ Some w → Lead w
  begun j d e w here there opin is = go driver refl ((tree j d here).opin opin)
    where
      go : (o : Option Terminal) → driver ≡ o
          → option_map_or (λ at. is_ordinary_pin_at g.arch at d) o false ≡ true → Lead w
      go None drives none = absurd (false≢true none)
      go (Some at) drives place =
          let parts = both_true (is_pin_at g.arch at d) (is_ordinary g.arch d.label d.number) place
          in
          let pin = opin-pin g.arch d at opin parts.0 parts.1 in
          let links = or_parts (are_parted g (elem_wire d) (elem_wire e)
          || misses g (elem_pin d) (elem_wire e)) (misses g (elem_pin e) (elem_wire d))
          (linked j d e here there) in
          let hit = (or_parts (are_parted g (elem_wire d) (elem_wire e))
          (misses g (elem_pin d) (elem_wire e)) links.0).1 in
          record {
            line = d;
            among = get-In elems j d here;
            leaves = pin.0;
            pin = pin.1;
            at = at;
            drives = drives;
            from = pin.2;
            first = w;
            rest = [];
            starts = opened pin.0 w (low (suc j) e w there is)
                (sym (λ k. misses g (pin.1 k) (is k)) ∙ hit);
            turn = tt;
            last = refl;
            own = λ v i. elim i [
              | inl same ↦ subst (In wires) same (own-wire (suc j) e w there is)
              | inr none ↦ absurd none
            ];
          }

  -- to a wire behind another
  extended : (j : ℕ) (d e : Elem) (u w : Wire) → slice_get elems j ≡ Some d
      → slice_get elems (suc j) ≡ Some e → elem_wire d ≡ Some u → elem_wire e ≡ Some w → Lead u
      → Lead w
  extended j d e u w here there from is lead =
      let links = or_parts (are_parted g (elem_wire d) (elem_wire e)
      || misses g (elem_pin d) (elem_wire e)) (misses g (elem_pin e) (elem_wire d))
      (linked j d e here there) in
      let whole = (or_parts (are_parted g (elem_wire d) (elem_wire e))
      (misses g (elem_pin d) (elem_wire e)) links.0).0 in
      let joint : joins u w = joined u w (low j d u here from) (low (suc j) e w there is)
      (sym (λ k. are_parted g (from k) (is k)) ∙ whole) in
      record {
        line = lead.line;
        among = lead.among;
        leaves = lead.leaves;
        pin = lead.pin;
        at = lead.at;
        drives = lead.drives;
        from = lead.from;
        first = lead.first;
        rest = lead.rest ++ w ∷ [];
        starts = lead.starts;
        turn = turn-more joins lead.first w lead.rest lead.turn
            (subst (λ (v : Wire). joins v w) (sym lead.last) joint);
        last = last-more lead.first w lead.rest;
        own = λ v i. elim (In-append_cases (lead.first ∷ lead.rest) (w ∷ []) v i) [
          | inl earlier ↦ lead.own v earlier
          | inr later ↦ elim later [
            | inl same ↦ subst (In wires) same (own-wire (suc j) e w there is)
            | inr none ↦ absurd none
          ]
        ];
      }

  -- to the wire of each channel line
  led : (n k : ℕ) → k < n → (e : Elem) (w : Wire) → slice_get elems k ≡ Some e
      → elem_wire e ≡ Some w → Lead w
  led zero k below e w at is = absurd (omega (arith, below))
  led (suc n) zero below e w at is =
      absurd (no-source e.kind (wire-channel e w is) (first e at))
  led (suc n) (suc j) below e w at is =
      go (led n) (get-before elems j e at)
    where
      go : ((k : ℕ) → k < n → (e : Elem) (w : Wire) → slice_get elems k ≡ Some e
          → elem_wire e ≡ Some w → Lead w)
          → (d : Elem) × (slice_get elems j ≡ Some d) → Lead w
      go lower previous =
          let d : Elem = previous.0 in
          let here : slice_get elems j ≡ Some d = previous.1 in
          elim (before-channel d.kind e.kind (follows j d e here at) (wire-channel e w is)) [
            | inl opin ↦ begun j d e w here at opin is
            | inr other ↦ elim other [
              | inl channel ↦
                  let u = channel-wire d channel in
                  extended j d e u.0 w here at u.1 is
                  (lower j (omega (arith, below)) d u.0 here u.1)
              | inr sink ↦
                  let again = In-list_any (is_on_wire w) (take (suc j) elems)
                  ((tree (suc j) e at).branch d (before j d here) sink w is) in
                  let spot = In-place (take (suc j) elems) again.0 again.1 in
                  let place = get-take elems (suc j) spot.0 again.0 spot.1 in
                  lower spot.0 (omega (arith, place.0, below)) again.0 w place.1
                  (on-wire w again.0 again.2)
            ]
          ]

  -- a way to the sink, on the lines of the net
  pub record Served (sink : Terminal) : Type 0 where
    pub way : Way
    pub at : Terminal
    pub drives : driver ≡ Some at
    pub leaves : is_terminal_pin g.arch at way.leaves ≡ true
    pub starts : OpensWire g.arch g.grid g.width way.leaves way.first
    pub turn : AreInTurn joins way.first way.rest
    pub ends : OpensWire g.arch g.grid g.width way.enters (last_wire way.first way.rest)
    pub enters : is_terminal_pin g.arch sink way.enters ≡ true
    pub own : (v : Wire) → In (way.first ∷ way.rest) v → In wires v
    pub out : (e : Elem) × In elems e × (elem_pin e ≡ Some way.leaves)
    pub enter : (e : Elem) × In elems e × (elem_pin e ≡ Some way.enters)

  -- by a channel, an IPIN and a SINK in turn
  ended : (i : ℕ) (c d e : Elem) → slice_get elems i ≡ Some c → slice_get elems (suc i) ≡ Some d
      → slice_get elems (suc (suc i)) ≡ Some e → is_ipin d.kind ≡ true → is_sink e.kind ≡ true
      → Served (named_terminal e)
  ended i c d e at_c at_d at_e ipin sink =
      let channel = before-ipin c.kind d.kind (follows i c d at_c at_d) ipin in
      let w = channel-wire c channel in
      let lead = led (suc i) i (omega arith) c w.0 at_c w.1 in
      let here = (tree (suc (suc i)) e at_e).sink sink d (before (suc i) d at_d) ipin in
      let pin = ipin-pin g.arch d (named_terminal e) ipin here
      (ordinary d ((tree (suc i) d at_d).ipin ipin)) in
      let links = or_parts (are_parted g (elem_wire c) (elem_wire d)
      || misses g (elem_pin c) (elem_wire d)) (misses g (elem_pin d) (elem_wire c))
      (linked i c d at_c at_d) in
      record {
        way = record {
          leaves = lead.leaves;
          first = lead.first;
          rest = lead.rest;
          enters = pin.0;
        };
        at = lead.at;
        drives = lead.drives;
        leaves = lead.from;
        starts = lead.starts;
        turn = lead.turn;
        ends = subst (OpensWire g.arch g.grid g.width pin.0) (sym lead.last)
            (opened pin.0 w.0 (low i c w.0 at_c w.1)
            (sym (λ k. misses g (pin.1 k) (w.1 k)) ∙ links.1));
        enters = pin.2;
        own = lead.own;
        out = (lead.line, lead.among, lead.pin);
        enter = (d, get-In elems (suc i) d at_d, pin.1);
      }

  at-sink : (k : ℕ) (e : Elem) → slice_get elems k ≡ Some e → is_sink e.kind ≡ true
      → Served (named_terminal e)
  at-sink zero e at sink = absurd (sink-no-source e.kind sink (first e at))
  at-sink (suc j) e at sink =
      let d = get-before elems j e at in
      let ipin = before-sink d.0.kind e.kind (follows j d.0 e d.1 at) sink in
      go j d.0 d.1 at ipin
    where
      go : (j : ℕ) (d : Elem) → slice_get elems j ≡ Some d → slice_get elems (suc j) ≡ Some e
          → is_ipin d.kind ≡ true → Served (named_terminal e)
      go zero d here there ipin = absurd (ipin-no-source d.kind ipin (first d here))
      go (suc i) d here there ipin =
          let c = get-before elems i d here in ended i c.0 d e c.1 here there ipin sink

  -- to each sink with a SINK line
  pub served : (sink : Terminal) → has_sink elems sink ≡ true → Served sink
  served sink has =
      let line = In-list_any (λ (e : Elem). is_sink e.kind && is_terminal e sink) elems has in
      let parts = both_true (is_sink line.0.kind) (is_terminal line.0 sink) line.2 in
      let place = In-place elems line.0 line.1 in
      subst Served (terminal-is line.0 sink parts.1) (at-sink place.0 line.0 place.1 parts.0)

  -- ways to these sinks, one for each, in turn
  pub record AreServed (sinks : List Terminal) : Type 0 where
    pub ways : List Way
    pub count : length ways ≡ length sinks
    pub each : (at : Terminal × Way) → In (zip sinks ways) at
        → (s : Served at.0) × (s.way ≡ at.1)
    pub of : (way : Way) → In ways way
        → (sink : Terminal) × In sinks sink × ((s : Served sink) × (s.way ≡ way))
    pub apart : AllPairs (λ (s t : Terminal). s ≢ t) sinks
        → AllPairs (λ (p q : PinAt). p ≢ q) (map (λ (way : Way). way.enters) ways)

  pub all-served : (sinks : List Terminal)
      → ((sink : Terminal) → In sinks sink → has_sink elems sink ≡ true) → AreServed sinks
  all-served [] has = record {
    ways = [];
    count = refl;
    each = λ at i. absurd i;
    of = λ way i. absurd i;
    apart = λ different i j d before inside. absurd (omega (arith, inside));
  }
  all-served (t ∷ ts) has =
      let s : Served t = served t (has t (inl refl)) in
      let r : AreServed ts = all-served ts (λ u i. has u (inr i)) in
      record {
        ways = s.way ∷ r.ways;
        count = ap suc r.count;
        each = λ at i. elim i [
          | inl same ↦ subst (λ (at : Terminal × Way). (s : Served at.0) × (s.way ≡ at.1)) same
              (s, refl)
          | inr later ↦ r.each at later
        ];
        of = λ way i. elim i [
          | inl same ↦ (t, inl refl, (s, same))
          | inr later ↦ let o = r.of way later in (o.0, inr o.1, o.2)
        ];
        apart = λ different. AllPairs-cons (λ (p q : PinAt). p ≢ q) s.way.enters
            (map (λ (way : Way). way.enters) r.ways)
            (all-from_In (λ (q : PinAt). s.way.enters ≢ q)
            (map (λ (way : Way). way.enters) r.ways) (λ q i same.
            let made = from_In-map (λ (way : Way). way.enters) r.ways q i in
            let o = r.of made.0 made.1 in
            let place = contains-In ts o.0 o.1 in
            let pin : o.2.0.way.enters ≡ s.way.enters =
            ap (λ (way : Way). way.enters) o.2.1 ∙ made.2 ∙ sym same in
            let one : t ≡ o.0 = one-terminal g.arch t o.0 s.way.enters s.enters
            (subst (λ (p : PinAt). is_terminal_pin g.arch o.0 p ≡ true) pin o.2.0.enters) in
            different 0 (suc place.0) o.0 (omega arith) (omega (arith, place.1))
            (one ∙ sym place.2)))
            (r.apart (λ i j d before inside.
            different (suc i) (suc j) d (omega (arith, before)) (omega (arith, inside))));
      }

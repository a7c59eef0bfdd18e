-- The steps by which a branch comes to a wire.
use Rattle.std.proofs.Common.{◌≡◌, ◌≢◌, ℕ, zero, suc, ◌+◌, ◌<◌, Bool, true, false, Option, Some, None, List, [], ◌∷◌, ◌++◌, length, refl, sym, ap, subst, ◌∙◌, inl, inr, arith, slice_set}
use Rattle.std.specs.Prelude.{◌&&◌, ◌||◌, not, nat_lt, slice_index_or, Contains, if◌then◌else◌}
use Rattle.std.specs.List.{last_or, list_any}
use Rattle.std.specs.Option.{option_map_or}
use Rattle.std.proofs.lemmas.Bool.{cases_lt, false≢true}
use Rattle.std.proofs.lemmas.List.{append-nil, get_or-set_other, get_or-set_same, length-set}
use Rattle.std.proofs.lemmas.List.Elements.{filter-append}
use Rattle.list_laws.proofs.Members.{In, In-list_any, contains-In, list_any-from_In}
use Rattle.list_laws.proofs.Places.{some_is}
use Rattle.fpga_bounds.specs.Keys.{has_elem}
use Rattle.fpga_graph.specs.Wires.{Reaches}
use Rattle.fpga_types.specs.Fit.{same_elem}
use Rattle.fpga_types.specs.Kinds.{is_channel, is_opin, is_sink}
use Rattle.fpga_types.specs.Slots.{elem_pin, slots}
use Rattle.fpga_types.specs.declared.grid.PinAt.{PinAt}
use Rattle.fpga_types.specs.declared.grid.Wire.{Wire}
use Rattle.fpga_types.specs.declared.route.Elem.{Elem}
use Rattle.route_reach.specs.Printing.{IsFrame, IsOwn, IsPrinting, IsQuietBehind, NetFrame, ends_of, graph_in, is_end, is_open, wire_line, wire_of}
use Rattle.route_reach.specs.Reach.{IsJoint}
use Rattle.route_reach.specs.Tree.{IsLedBy, reached_at}
use Rattle.route_reach.specs.declared.tree.Lead.TheVariants.{Pin, Wire as WireLead}
use Rattle.route_reach.specs.declared.printed.Printed.{Printed}
use Rattle.route_reach.specs.declared.tree.Reached.{Reached}
use Rattle.route_reach.proofs.ElemLemmas.{on-wire, wire-equal}
use Rattle.route_reach.proofs.FoundLemmas.{on-line, same_wire-is}
use Rattle.route_reach.proofs.FrameLemmas.{one-number, wire-low, wire-near}
use Rattle.route_reach.proofs.LineFacts.{channel-kinds, channel-leads, line-channel, line-wire, no-pin, no-wire, opin-leads, opin-other, or-false, or-true, same_elem-itself, sink-bare, sink-leads}
use Rattle.route_reach.proofs.PrintingLemmas.{IsStep, deep-branch, deep-opin, deep-wire, depth_of}
use Rattle.route_reach.proofs.QuietKinds.{IsNextWire, channel-seen, missed-none}
use Rattle.route_reach.proofs.Wires.{is-joins, is-reaches}
use Rattle.route_verify.specs.Depths.{same_tracked}
use Rattle.route_verify.specs.Lines.{has_wire, is_on_wire}
use Rattle.route_verify.specs.Wiring.{are_joined, are_parted, elem_wire, misses, reaches, same_wire}
use Rattle.route_verify.proofs.EqualLines.{same_elem-is}
use Rattle.route_verify.proofs.SlotWires.{same_wire-itself}

-- a line that is neither an IPIN nor a SINK adds no end
pub ends-same : (lines : List Elem) (e : Elem) → is_end e ≡ false
    → ends_of (lines ++ e ∷ []) ≡ ends_of lines
ends-same lines e other =
    filter-append is_end lines (e ∷ []) ∙ (λ i. ends_of lines ++ one (is_end e) other i)
    ∙ append-nil (ends_of lines)
  where
    one : (b : Bool) → b ≡ false → (if b then e ∷ [] else []) ≡ []
    one true h = absurd (false≢true (sym h))
    one false h = refl

-- lines without a last one are none
pub no-last : (xs : List Elem) → last_or None xs ≡ None → xs ≡ []
no-last [] h = refl
no-last (x ∷ xs) h = absurd (later x xs h)
  where
    later : (y : Elem) (ys : List Elem) → last_or (Some y) ys ≡ None → ⊥
    later y [] g = cc
    later y (z ∷ zs) g = later z zs g

-- where a branch may begin behind a line, that is a SINK
pub open-sink : (lines : List Elem) → is_open lines ≡ true → 0 < length lines
    → (a : Elem) × (last_or None lines ≡ Some a) × (is_sink a.kind ≡ true)
open-sink lines free some = go (last_or None lines) refl free
  where
    go : (o : Option Elem) → last_or None lines ≡ o
        → option_map_or (λ (e : Elem). is_sink e.kind) o true ≡ true
        → (a : Elem) × (last_or None lines ≡ Some a) × (is_sink a.kind ≡ true)
    go None is h =
        absurd (let empty : length lines ≡ 0 = ap length (no-last lines is) in
        omega (arith, some, empty))
    go (Some a) is h = (a, is, h)

module _ (f : NetFrame) (is : IsFrame f) where
  -- ---- a line on a wire

  -- a line on a wire of the tree is the wire's line
  pub own-line : (e : Elem) (w : Wire) → IsOwn f e → elem_wire e ≡ Some w → e ≡ wire_line w
  own-line e w own on =
      let k = own.wire (on-wire e w on).channel in
      let same : wire_of f k.0 ≡ w =
      some_is (sym (line-wire (wire_of f k.0)) ∙ sym (ap elem_wire k.3) ∙ on) in
      k.3 ∙ ap wire_line same

  -- where the lines have a wire, they have its line
  pub line-there : (lines : List Elem) (w : Wire)
      → ((e : Elem) → Contains lines e → IsOwn f e) → has_wire lines w ≡ true
      → In lines (wire_line w)
  line-there lines w own has =
      let any = In-list_any (is_on_wire w) lines has in
      subst (In lines)
      (own-line any.0 w (own any.0 (contains-In lines any.0 any.1)) (on-line w any.0 any.2)) any.1

  -- a line is on a wire of the tree where it is the line of that
  on-other : (j k : ℕ) (q r : Reached) → reached_at f.tree j ≡ Some q
      → reached_at f.tree k ≡ Some r → j ≢ k
      → is_on_wire (wire_of f j) (wire_line (wire_of f k)) ≡ false
  on-other j k q r there here apart =
      (λ i. option_map_or (same_wire (wire_of f j)) (line-wire (wire_of f k) i) false)
      ∙ go (same_wire (wire_of f j) (wire_of f k)) refl
    where
      go : (b : Bool) → same_wire (wire_of f j) (wire_of f k) ≡ b → b ≡ false
      go false e = refl
      go true e = absurd (apart (one-number f is j k q r there here
          (same_wire-is (wire_of f j) (wire_of f k) e)))

  on-itself : (k : ℕ) → is_on_wire (wire_of f k) (wire_line (wire_of f k)) ≡ true
  on-itself k =
      (λ i. option_map_or (same_wire (wire_of f k)) (line-wire (wire_of f k) i) false)
      ∙ same_wire-itself (wire_of f k)

  -- an OPIN is no channel
  not-same : (q e : Elem) → is_opin q.kind ≡ true → is_opin e.kind ≡ false
      → same_elem q e ≡ false
  not-same q e opin other = go (same_elem q e) refl
    where
      go : (b : Bool) → same_elem q e ≡ b → b ≡ false
      go false h = refl
      go true h = absurd (false≢true (sym other
          ∙ ap is_opin (sym (same_elem-is q e h).kind) ∙ opin))

  -- ---- the steps

  pub wire-step : (old new : Printed) (k : ℕ) (r : Reached) → reached_at f.tree k ≡ Some r
      → k < length old.marks.items
      → new.lines.items ≡ old.lines.items ++ wire_line (wire_of f k) ∷ []
      → new.marks.items ≡ slice_set old.marks.items k true → new.opins ≡ old.opins
      → IsStep f old new (wire_line (wire_of f k))
  wire-step old new k r there low lines marks opins = record {
    lines = lines;
    places = ap length marks ∙ length-set old.marks.items k true;
    marked = λ j q here. ap (λ (ms : List Bool). slice_index_or ms j false) marks
        ∙ elim (cases_lt j k) [
          | inl below ↦ other j q here (λ same. absurd (omega (arith, below, same)))
          | inr not_below ↦ elim (cases_lt k j) [
            | inl above ↦ other j q here (λ same. absurd (omega (arith, above, same)))
            | inr not_above ↦ same j (omega (arith, not_below, not_above))
          ]
        ];
    seen = λ q opin. ap (λ (s : _). has_elem s q) opins
        ∙ sym (or-false (has_elem old.opins q))
        ∙ (λ i. has_elem old.opins q || sym (not-same q (wire_line (wire_of f k)) opin
        (channel-kinds (wire_line (wire_of f k)).kind (line-channel (wire_of f k))).1) i);
  }
    where
      other : (j : ℕ) (q : Reached) → reached_at f.tree j ≡ Some q → j ≢ k
          → slice_index_or (slice_set old.marks.items k true) j false
          ≡ (slice_index_or old.marks.items j false
          || is_on_wire (wire_of f j) (wire_line (wire_of f k)))
      other j q here apart =
          get_or-set_other old.marks.items k j true false apart
          ∙ sym (or-false (slice_index_or old.marks.items j false))
          ∙ (λ i. slice_index_or old.marks.items j false
          || sym (on-other j k q r here there apart) i)

      same : (j : ℕ) → j ≡ k → slice_index_or (slice_set old.marks.items k true) j false
          ≡ (slice_index_or old.marks.items j false
          || is_on_wire (wire_of f j) (wire_line (wire_of f k)))
      same j one =
          ap (λ (n : ℕ). slice_index_or (slice_set old.marks.items k true) n false) one
          ∙ get_or-set_same old.marks.items k true false low
          ∙ sym (or-true (slice_index_or old.marks.items j false))
          ∙ (λ i. slice_index_or old.marks.items j false
          || sym (ap (λ (n : ℕ). is_on_wire (wire_of f n) (wire_line (wire_of f k))) one
          ∙ on-itself k) i)

  -- a line that is no channel
  pub plain-step : (old new : Printed) (e : Elem) → is_channel e.kind ≡ false
      → new.lines.items ≡ old.lines.items ++ e ∷ [] → new.marks ≡ old.marks
      → ((q : Elem) → is_opin q.kind ≡ true
      → has_elem new.opins q ≡ (has_elem old.opins q || same_elem q e))
      → IsStep f old new e
  plain-step old new e other lines marks seen = record {
    lines = lines;
    places = ap (λ (m : _). length m.items) marks;
    marked = λ j q here. ap (λ (m : _). slice_index_or m.items j false) marks
        ∙ sym (or-false (slice_index_or old.marks.items j false))
        ∙ (λ i. slice_index_or old.marks.items j false
        || option_map_or (same_wire (wire_of f j)) (sym (no-wire e other) i) false);
    seen = seen;
  }

  pub opins-same : (old new : Printed) (e : Elem) → is_opin e.kind ≡ false
      → new.opins ≡ old.opins → (q : Elem) → is_opin q.kind ≡ true
      → has_elem new.opins q ≡ (has_elem old.opins q || same_elem q e)
  opins-same old new e other opins q opin = ap (λ (s : _). has_elem s q) opins
      ∙ sym (or-false (has_elem old.opins q))
      ∙ (λ i. has_elem old.opins q || sym (not-same q e opin other) i)

  -- ---- the next wire

  module _ (printed : Printed) (so_far : IsPrinting f printed) (k : ℕ) (r : Reached)
      (there : reached_at f.tree k ≡ Some r) where
    abbrev lines : List Elem
    lines = printed.lines.items

    abbrev w : Wire
    w = wire_of f k

    abbrev e : Elem
    e = wire_line w

    -- the line on the wire may stand behind these, and has the wire's depth there
    pub record IsNext : Type 0 where
      pub quiet : IsQuietBehind f lines e
      pub depth : depth_of f lines e ≡ Some r.depth

    quiet-by : (o : Option Elem) → last_or None lines ≡ o → IsNextWire f o
        (list_any (same_elem e) lines) (has_wire lines w) e w → IsQuietBehind f lines e
    quiet-by o last next =
        channel-seen f is.ordinary lines (last_or None lines) (list_any (same_elem e) lines)
        (option_map_or (has_wire lines) (elem_wire e) false) _ e w
        (subst (λ (b : Bool). IsNextWire f (last_or None lines) (list_any (same_elem e) lines) b
        e w) (λ i. option_map_or (has_wire lines) (sym (line-wire w) i) false)
        (subst (λ (p : Option Elem). IsNextWire f p (list_any (same_elem e) lines)
        (has_wire lines w) e w) (sym last) next))

    -- the line before, if it is a SINK, an OPIN that reaches the wire, or a wire joined to it
    pub next-branch : is_open lines ≡ true → has_wire lines w ≡ true → IsNext
    next-branch free has =
        let among = line-there lines w so_far.own has in
        let a = open-sink lines free (some lines among) in
        let bare = sink-bare a.0 a.2 in
        record {
          quiet = quiet-by (Some a.0) a.1 (record {
            channel = line-channel w;
            on = line-wire w;
            low = wire-low f is k r there;
            near = wire-near f is k r there;
            connected = (λ i. are_parted (graph_in f) (bare.0 i) (elem_wire e)
                || misses (graph_in f) (bare.1 i) (elem_wire e)
                || misses (graph_in f) (elem_pin e) (bare.0 i))
                ∙ missed-none (graph_in f) (elem_pin e);
            order = sink-leads a.0.kind e.kind a.2 (line-channel w);
            new = inr (
              a.2,
              list_any-from_In (same_elem e) lines e among (same_elem-itself e),
              has,
            );
          });
          depth = deep-branch f lines so_far.deep e (line-channel w) k r there (line-wire w) a.0 a.1
              a.2 (list_any-from_In (same_tracked e) lines e among
              (wire-equal e e w (line-wire w) (line-wire w) refl refl));
        }
      where
        some : (xs : List Elem) → In xs e → 0 < length xs
        some [] i = absurd i
        some (x ∷ xs) i = omega arith

    pub next-opin : (a : Elem) (pin : PinAt) → last_or None lines ≡ Some a
        → is_opin a.kind ≡ true → elem_pin a ≡ Some pin → Reaches (graph_in f) pin w
        → has_wire lines w ≡ false → r.depth ≡ 0 → IsNext
    next-opin a pin last opin has reaches_it new none =
        let kinds = opin-other a.kind opin in
        let reached : reaches (graph_in f) pin w ≡ true =
        is-reaches (graph_in f) pin w reaches_it in
        record {
          quiet = quiet-by (Some a) last (record {
            channel = line-channel w;
            on = line-wire w;
            low = wire-low f is k r there;
            near = wire-near f is k r there;
            connected = (λ i. are_parted (graph_in f) (no-wire a kinds.0 i) (elem_wire e)
                || misses (graph_in f) (has i) (line-wire w i)
                || misses (graph_in f) (no-pin e (line-channel w) i) (elem_wire a))
                ∙ (λ i. nat_lt w.track f.width && not (reached i) || false)
                ∙ (λ i. wire-low f is k r there i && false || false);
            order = opin-leads a.kind e.kind opin (line-channel w);
            new = inl (kinds.1, new);
          });
          depth = deep-opin f lines so_far.deep e (line-channel w) k r there (line-wire w) a last
              opin kinds.1 none;
        }

    pub next-wire : (j : ℕ) (s : Reached) → last_or None lines ≡ Some (wire_line (wire_of f j))
        → reached_at f.tree j ≡ Some s → r.depth ≡ s.depth + 1
        → IsJoint (graph_in f) (wire_of f j, w) → has_wire lines w ≡ false → IsNext
    next-wire j s last before more joint new =
        let a : Elem = wire_line (wire_of f j) in
        let channel : is_channel a.kind ≡ true = line-channel (wire_of f j) in
        let kinds = channel-kinds a.kind channel in
        let joined : are_joined (graph_in f) (wire_of f j) w ≡ true =
        is-joins (graph_in f) (wire_of f j) w joint in
        record {
          quiet = quiet-by (Some a) last (record {
            channel = line-channel w;
            on = line-wire w;
            low = wire-low f is k r there;
            near = wire-near f is k r there;
            connected = (λ i. are_parted (graph_in f) (line-wire (wire_of f j) i) (line-wire w i)
                || misses (graph_in f) (no-pin a channel i) (elem_wire e)
                || misses (graph_in f) (no-pin e (line-channel w) i) (elem_wire a))
                ∙ (λ i. wire-low f is j s before i && wire-low f is k r there i
                && not (joined i) || false || false);
            order = channel-leads a.kind e.kind channel (line-channel w);
            new = inl (kinds.3, new);
          });
          depth = deep-wire f lines so_far.deep e (line-channel w) k r there (line-wire w) a j s
              last kinds.1 kinds.3 before (line-wire (wire_of f j)) more;
        }

-- what stands at a place, whatever is read past the end
pub same-default : {T : Type 0} (xs : List T) (k : ℕ) (a b : T) → k < length xs
    → slice_index_or xs k a ≡ slice_index_or xs k b
same-default [] k a b low = absurd (omega (arith, low))
same-default (x ∷ xs) zero a b low = refl
same-default (x ∷ xs) (suc k) a b low = same-default xs k a b (omega (arith, low))

-- a wire that is reached is one of the net's
pub reached-low : {T : Type 0} (xs : List (Option T)) (k : ℕ) (r : T)
    → slice_index_or xs k None ≡ Some r → k < length xs
reached-low [] k r h = cc
reached-low (x ∷ xs) zero r h = omega arith
reached-low (x ∷ xs) (suc k) r h = let low = reached-low xs k r h in omega (arith, low)

-- where a search finds something, there is something
pub some-found : {T : Type 0} (q : T → Bool) (xs : List T) → list_any q xs ≡ true → 0 < length xs
some-found q [] h = absurd (false≢true h)
some-found q (x ∷ xs) h = omega arith

module _ (f : NetFrame) (is : IsFrame f) (k : ℕ) (r : Reached)
    (there : reached_at f.tree k ≡ Some r) where
  -- a mark that is read
  pub mark-read : (printed : Printed) → IsPrinting f printed → (now b : Bool)
      → now ≡ slice_index_or printed.marks.items k now → now ≡ b
      → slice_index_or printed.marks.items k false ≡ b
  mark-read printed so_far now b at value =
      let inside = reached-low f.tree.wires k r there in
      same-default printed.marks.items k false now (omega (arith, inside, so_far.places))
      ∙ sym at ∙ value

  module _ (new : Printed) (so_far : IsPrinting f new)
      (unmarked : slice_index_or new.marks.items k false ≡ false) where
    abbrev IsNextWireOf : Type 0
    IsNextWireOf = IsNext f is new so_far k r there

    bare : has_wire new.lines.items (wire_of f k) ≡ false
    bare = sym (so_far.marked k r there) ∙ unmarked

    -- behind the OPIN that leads to it
    pub next-by_pin : (pin : Elem) → r.lead ≡ Pin pin → last_or None new.lines.items ≡ Some pin
        → IsNextWireOf
    next-by_pin pin lead last =
        let led = subst (IsLedBy (graph_in f) (slots f.problem.route) f.net f.tree k r.depth) lead
        (is.tree.led k r there) in
        next-opin f is new so_far k r there pin led.3 last led.2 led.4 led.5 bare led.0

    -- behind the wire that leads to it
    pub next-by_wire : (j : ℕ) → r.lead ≡ WireLead j
        → last_or None new.lines.items ≡ Some (wire_line (wire_of f j)) → IsNextWireOf
    next-by_wire j lead last =
        let led = subst (IsLedBy (graph_in f) (slots f.problem.route) f.net f.tree k r.depth) lead
        (is.tree.led k r there) in
        next-wire f is new so_far k r there j led.0 last led.1 led.2 led.3 bare

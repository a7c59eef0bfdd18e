-- A net once all its lines are printed.
use Rattle.std.proofs.Common.{◌≡◌, ℕ, zero, suc, ◌<◌, Bool, true, false, Option, Some, None, List, [], ◌∷◌, ◌++◌, length, take, drop, refl, sym, ap, subst, ◌∙◌, inl, inr, arith}
use Rattle.std.specs.Prelude.{◌&&◌, ◌||◌, ◌==◌, not, slice_get, IsTrue}
use Rattle.std.specs.List.{last_or, list_all, list_any}
use Rattle.std.specs.Option.{option_map_or}
use Rattle.std.proofs.Math.Seq.{take-length}
use Rattle.std.proofs.lemmas.Bool.{false≢true, not-false, or_parts}
use Rattle.std.proofs.lemmas.Bool.Decides.{Decides-eqb}
use Rattle.list_laws.proofs.Members.{In, In-all, In-contains, In-filter, all-from_In, contains-In, list_any-from_In}
use Rattle.list_laws.proofs.Places.{get-In, last-push, some_is}
use Rattle.fpga_bounds.specs.NetFit.{line_at}
use Rattle.fpga_bounds.proofs.LineLemmas.{elem_line}
use Rattle.fpga_text.specs.Bytes.{Bytes}
use Rattle.fpga_types.specs.Fit.{same_elem}
use Rattle.fpga_types.specs.Fits.{has_sink, lacks_sink}
use Rattle.fpga_types.specs.Kinds.{is_channel, is_ipin, is_opin, is_pin, is_sink, is_source, may_follow, same_label}
use Rattle.fpga_types.specs.Sound.{IsSoundNet}
use Rattle.fpga_types.specs.Terminals.{driver_named, is_input, is_ordinary_pin_at, is_pin_at, is_terminal, named_terminal, sinks_named}
use Rattle.fpga_types.specs.declared.grid.Wire.{Wire}
use Rattle.fpga_types.specs.declared.problem.Terminal.{Terminal}
use Rattle.fpga_types.specs.declared.route.Elem.{Elem}
use Rattle.fpga_types.specs.declared.route.ElemKind.{ElemKind}
use Rattle.fpga_types.specs.declared.route.ElemKind.TheVariants.{Ipin, Sink}
use Rattle.fpga_types.specs.declared.route.Label.TheVariants.{Track}
use Rattle.fpga_types.specs.declared.route.RouteNet.{RouteNet}
use Rattle.route_reach.specs.Good.{is_labelled, is_pin_among}
use Rattle.route_reach.specs.Printing.{AreApart, IsFrame, IsPrintedNet, IsPrintedTo, NetFrame, StandsBehind, ends_of, graph_in, is_end, line_behind, wire_of}
use Rattle.route_reach.specs.Quiet.{IsQuiet}
use Rattle.route_reach.specs.declared.printed.Printed.{Printed}
use Rattle.route_reach.proofs.BranchLemmas.{open-sink}
use Rattle.route_reach.proofs.FoundLemmas.{IsFitLine, fit-line, pin-other}
use Rattle.route_reach.proofs.FrameLemmas.{fits-at, head-fits}
use Rattle.route_reach.proofs.LineFacts.{any-filter, line-wire, same_elem-itself, sink-kinds}
use Rattle.route_reach.proofs.NetSinks.{last-place}
use Rattle.route_reach.proofs.OwnLines.{last-sink}
use Rattle.route_reach.proofs.ElemLemmas.{on-wire}
use Rattle.route_reach.proofs.QuietKinds.{fit-none}
use Rattle.route_verify.specs.Lines.{is_stray_in, is_wire_of, judged_line}
use Rattle.route_verify.specs.Reach.{reach_line}
use Rattle.route_verify.specs.Wiring.{elem_wire}

-- with an element behind which nothing stands a list is whole
whole-at : {A : Type 0} (xs : List A) (i : ℕ) (x : A) → slice_get xs i ≡ Some x
    → (length (drop (suc i) xs) == 0) ≡ true → take i xs ++ x ∷ [] ≡ xs
whole-at [] i x at none = cc
whole-at {A} (y ∷ ys) zero x at none = go ys none
  where
    go : (zs : List A) → (length (drop 1 (y ∷ zs)) == 0) ≡ true
        → take 0 (y ∷ zs) ++ x ∷ [] ≡ y ∷ zs
    go [] h = (λ n. some_is (sym at) n ∷ [])
    go (z ∷ zs) h = absurd (let zero_is : length (z ∷ zs) ≡ 0 =
        (Decides-eqb (length (z ∷ zs)) 0).0 h in omega (arith, zero_is))
whole-at {A} (y ∷ ys) (suc i) x at none =
    ap (λ (zs : List A). y ∷ zs) (whole-at ys i x at none)

-- a line that names a terminal is a SINK, and so one of the ends
sink-ends : (x : Elem) (t : Terminal) → (is_sink x.kind && is_terminal x t) ≡ true
    → is_end x ≡ true
sink-ends x t h = go x.kind h
  where
    go : (k : ElemKind) → (is_sink k && is_terminal x t) ≡ true → (is_ipin k || is_sink k) ≡ true
    go Sink g = refl
    go Ipin g = refl
    go k g = absurd (false≢true g)

module _ (f : NetFrame) (is : IsFrame f) (printed : Printed)
    (so_far : IsPrintedTo f (length f.net.elems) printed) where
  abbrev lines : List Elem
  lines = printed.lines.items

  -- the last line of the global route is a SINK, and with it each sink has a line
  record IsEnd : Type 0 where
    place : ℕ
    elem : Elem
    at : slice_get f.net.elems place ≡ Some elem
    sink : is_sink elem.kind ≡ true
    last : last_or None f.net.elems ≡ Some elem
    all : list_all (has_sink f.net.elems) (sinks_named f.problem f.net.name) ≡ true

  ended : IsEnd
  ended = elim (last-place f.net.elems) [
    | inl none ↦ absurd (false≢true (sym (bare none)))
    | inr r ↦ record {
      place = r.0;
      elem = r.1;
      at = r.2;
      sink = last-sink f is r.0 r.1 r.2 (ap (λ (es : List Elem). length es == 0) r.3);
      last = ap (last_or None) (sym r.4) ∙ last-push None (take r.0 f.net.elems) r.1;
      all = not-false (list_all (has_sink f.net.elems) (sinks_named f.problem f.net.name))
          (sym (λ n. not (is.ordinary n) && length (r.3 n) == 0
          && not (list_all (has_sink (r.4 n)) (sinks_named f.problem f.net.name)))
          ∙ (or_parts _ (lacks_sink f.problem
          (elem_line (take f.number f.problem.route.nets) f.net r.0 r.1))
          (fits-at f is r.0 r.1 r.2).once).1);
    }
  ]
    where
      bare : f.net.elems ≡ [] → true ≡ false
      bare none = sym (λ n. not (is.ordinary n) && (false || length (none n) == 0 && not false))
          ∙ (head-fits f is).order

  ends : ends_of lines ≡ ends_of f.net.elems
  ends = so_far.ends ∙ ap ends_of (take-length f.net.elems)

  -- each sink has a line among those that are printed
  sinks-there : (t : Terminal) → has_sink lines t ≡ has_sink f.net.elems t
  sinks-there t =
      let test : Elem → Bool = λ x. is_sink x.kind && is_terminal x t in
      sym (any-filter test is_end lines (λ x. sink-ends x t))
      ∙ ap (list_any test) ends
      ∙ any-filter test is_end f.net.elems (λ x. sink-ends x t)

  all-there : list_all (has_sink lines) (sinks_named f.problem f.net.name) ≡ true
  all-there = (λ n. list_all (λ t. sinks-there t n) (sinks_named f.problem f.net.name)) ∙ ended.all

  some-ends : (xs : List Elem) → ends_of xs ≡ ends_of f.net.elems → 0 < length xs
  some-ends [] same =
      absurd (subst (λ (es : List Elem). In es ended.elem) (sym same)
      (In-filter is_end f.net.elems ended.elem (get-In f.net.elems ended.place ended.elem ended.at)
      (sink-kinds ended.elem.kind ended.sink).1))
  some-ends (x ∷ xs) same = omega arith

  some : 0 < length lines
  some = some-ends lines ends

  -- the last line is a SINK
  last-is-sink : (a : Elem) × (last_or None lines ≡ Some a) × (is_sink a.kind ≡ true)
  last-is-sink =
      let stands : StandsBehind f lines (Some ended.elem) =
      subst (StandsBehind f lines)
      (ap (last_or None) (take-length f.net.elems) ∙ ended.last) so_far.stands in
      open-sink lines (stands.1 (sink-kinds ended.elem.kind ended.sink).0) some

  -- ---- the net with these lines

  module _ (k line : ℕ) (name : Bytes) (same : name ≡ f.net.name) where
    abbrev made : RouteNet
    made = record {
      k = k;
      name = name;
      global = false;
      line = line;
      elems = lines;
      kept = [];
    }

    made-quiet : (earlier : List RouteNet) (i : ℕ) (e : Elem) → AreApart earlier made
        → slice_get lines i ≡ Some e
        → IsQuiet (graph_in f) f.reach (reach_line f.problem
        (line_at earlier made (take i lines, e, drop (suc i) lines)))
    made-quiet earlier i e apart at =
        record {
          connected = base.connected;
          low = base.low;
          alone = taken (elem_wire e) refl;
          near = (λ n. is_stray_in f.problem.route.nets (same n) e) ∙ base.near;
          new = base.new;
          whole = whole (length (drop (suc i) lines) == 0) refl;
          fitting = fit-none (graph_in f) (judged_line f.problem
              (line_at earlier made (take i lines, e, drop (suc i) lines))) refl refl
              ((λ n. is_source e.kind && not (option_map_or (is_terminal e)
              (driver_named f.problem (same n)) false)) ∙ codes.source)
              ((λ n. is_sink e.kind && not (list_any (is_terminal e)
              (sinks_named f.problem (same n)))) ∙ codes.sink)
              codes.again
              ((λ n. is_opin e.kind && not (option_map_or
              (λ driver. is_ordinary_pin_at f.problem.arch driver e)
              (driver_named f.problem (same n)) false)
              || is_ipin e.kind && not (is_input f.problem e)
              || is_sink e.kind && option_map_or (λ (before : Elem). is_ipin before.kind
              && not (is_pin_at f.problem.arch (named_terminal e) before))
              (last_or None (take i lines)) false) ∙ codes.pin)
              codes.other codes.loose
              (apart.pins e (contains-In lines e (get-In lines i e at)))
              (λ n. not (in-order n)
              || ends-well (length (drop (suc i) lines) == 0) refl n);
          short = base.short;
        }
      where
        base : IsQuiet (graph_in f) f.reach (reach_line f.problem (line_behind f (take i lines) e))
        base = so_far.printing.quiet i e at

        codes : IsFitLine (graph_in f) (judged_line f.problem (line_behind f (take i lines) e))
        codes = fit-line (graph_in f) (judged_line f.problem (line_behind f (take i lines) e))
            base.fitting

        in-order : option_map_or (λ (a : Elem). may_follow a.kind e.kind)
            (last_or None (take i lines)) (is_source e.kind) ≡ true
        in-order =
            let order : Bool = option_map_or (λ (a : Elem). may_follow a.kind e.kind)
            (last_or None (take i lines)) (is_source e.kind) in
            not-false order (or_parts (not order) false
            (sym (ap (λ (b : Bool). not b && (not order || false)) is.ordinary) ∙ codes.order)).0

        taken : (o : Option Wire) → elem_wire e ≡ o
            → option_map_or (is_wire_of earlier) (elem_wire e) false ≡ false
        taken None none = ap (λ (o : Option Wire). option_map_or (is_wire_of earlier) o false) none
        taken (Some w) on =
            ap (λ (o : Option Wire). option_map_or (is_wire_of earlier) o false) on
            ∙ apart.wires e w (contains-In lines e (get-In lines i e at)) on

        whole : (b : Bool) → (length (drop (suc i) lines) == 0) ≡ b
            → (not false && (length (drop (suc i) lines) == 0)
            && not (list_all (has_sink (take i lines ++ e ∷ [])) (sinks_named f.problem name)))
            ≡ false
        whole false later = λ n. not false && later n
            && not (list_all (has_sink (take i lines ++ e ∷ [])) (sinks_named f.problem name))
        whole true none =
            (λ n. not false && none n
            && not (list_all (has_sink (whole-at lines i e at none n))
            (sinks_named f.problem (same n))))
            ∙ ap not all-there

        ends-well : (b : Bool) → (length (drop (suc i) lines) == 0) ≡ b
            → ((length (drop (suc i) lines) == 0) && not (is_sink e.kind)) ≡ false
        ends-well false later = λ n. later n && not (is_sink e.kind)
        ends-well true none =
            let last : Some e ≡ Some last-is-sink.0 =
            sym (last-push None (take i lines) e)
            ∙ ap (last_or None) (whole-at lines i e at none) ∙ last-is-sink.1 in
            (λ n. none n && not (is_sink (some_is last n).kind)) ∙ ap not last-is-sink.2

    own-pin : (e : Elem) → In lines e → is_channel e.kind ≡ false → In f.net.elems e
    own-pin e i other = In-contains f.net.elems e
        ((so_far.printing.own e (contains-In lines e i)).pin other)

    pin-among : (e : Elem) → In lines e → IsTrue (is_pin_among f.net.elems e)
    pin-among e i = go (is_pin e.kind) refl
      where
        go : (b : Bool) → is_pin e.kind ≡ b
            → (not (is_pin e.kind) || list_any (same_elem e) f.net.elems) ≡ true
        go false other = λ n. not (other n) || list_any (same_elem e) f.net.elems
        go true so =
            (λ n. not (so n) || list_any (same_elem e) f.net.elems)
            ∙ list_any-from_In (same_elem e) f.net.elems e
            (own-pin e i (pin-other e.kind so)) (same_elem-itself e)

    labelled : (e : Elem) → In lines e → IsTrue (is_labelled e)
    labelled e i = go (is_channel e.kind) refl
      where
        go : (b : Bool) → is_channel e.kind ≡ b
            → (not (is_channel e.kind) || same_label e.label Track) ≡ true
        go false other = λ n. not (other n) || same_label e.label Track
        go true so =
            let k = (so_far.printing.own e (contains-In lines e i)).wire so in
            (λ n. not (so n) || same_label (ap (λ (x : Elem). x.label) k.3 n) Track)

    -- it is the net, routed over the wires of its tree
    pub made-printed : k ≡ f.net.k → IsPrintedNet f made
    made-printed k_is = record {
      routed = record {
        k = k_is;
        name = same;
        global = sym is.ordinary;
        kept = sym (sound-net.ordinary_kept is.ordinary);
        elems = λ global. absurd (false≢true (sym is.ordinary ∙ global));
        pins = all-from_In (λ e. IsTrue (is_pin_among f.net.elems e)) lines pin-among;
        labels = all-from_In (λ e. IsTrue (is_labelled e)) lines labelled;
      };
      some = some;
      wires = λ e w has on.
          let own = (so_far.printing.own e has).wire (on-wire e w on).channel in (
            own.0,
            own.1,
            own.2,
            some_is (sym (line-wire (wire_of f own.0)) ∙ sym (ap elem_wire own.3) ∙ on),
          );
      quiet = made-quiet;
    }
      where
        sound-net : IsSoundNet f.problem.route.grid f.net
        sound-net = In-all (IsSoundNet f.problem.route.grid) f.problem.route.nets f.net
            is.given.route.nets (get-In f.problem.route.nets f.number f.net is.here)

-- a net with these lines and no kept ones
pub net-printed : (f : NetFrame) (is : IsFrame f) (printed : Printed)
    → IsPrintedTo f (length f.net.elems) printed → (k line : ℕ) (name : Bytes)
    (elems : List Elem) (kept : List Bytes) → name ≡ f.net.name → k ≡ f.net.k
    → elems ≡ printed.lines.items → kept ≡ []
    → IsPrintedNet f (record {
      k = k;
      name = name;
      global = false;
      line = line;
      elems = elems;
      kept = kept;
    })
net-printed f is printed so_far k line name elems kept same numbers lines none =
    subst (λ (es : List Elem). IsPrintedNet f (record {
      k = k;
      name = name;
      global = false;
      line = line;
      elems = es;
      kept = kept;
    })) (sym lines)
    (subst (λ (ks : List Bytes). IsPrintedNet f (record {
      k = k;
      name = name;
      global = false;
      line = line;
      elems = printed.lines.items;
      kept = ks;
    })) (sym none) (made-printed f is printed so_far k line name same numbers))

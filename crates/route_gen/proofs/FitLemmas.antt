-- The values of a generated problem fit, but that there may be too many slots.
use Rattle.std.proofs.Common.{◌≡◌, ◌⊎◌, ℕ, ◌*◌, ◌<◌, ◌≤◌, Bool, true, false, Some, None, List, [], ◌∷◌, ◌++◌, length, refl, sym, ap, subst, ◌∙◌, inl, inr, arith, append_assoc, zero-add}
use Rattle.std.specs.Prelude.{All, bytes_eq, not, slice_get, ◌&&◌, ◌||◌, ◌==◌}
use Rattle.std.specs.List.{AllByRecursion, list_all, list_any}
use Rattle.std.specs.Option.{option_map_or}
use Rattle.std.proofs.lemmas.Bool.{cases_eq, eq-eqb, ne_eqb}
use Rattle.std.proofs.lemmas.List.Folds.{list_any-append, list_any_none}
use Rattle.std.proofs.lemmas.Option.{slice_get_within, get_or_from_slice_get}
use Rattle.fpga_types.proofs.FitLemmas.{place-in}
use Rattle.fpga_types.specs.Fit.{is_pin_of, same_elem, same_pin, same_place, splits}
use Rattle.fpga_types.specs.Fits.{has_net, has_sink, lacks_sink, problem_context}
use Rattle.fpga_types.specs.Kinds.{is_ipin, is_opin, is_pin, is_sink, is_source}
use Rattle.fpga_types.specs.Problem.{RoutingProblem}
use Rattle.fpga_types.specs.Terminals.{driver_named, is_input, is_ordinary_pin_at, is_terminal, sinks_named}
use Rattle.fpga_types.specs.declared.netlist.Netlist.{Netlist}
use Rattle.fpga_types.specs.declared.problem.Terminal.{Terminal}
use Rattle.fpga_types.specs.declared.route.Elem.{Elem}
use Rattle.fpga_types.specs.declared.route.ElemKind.TheVariants.{Source, Opin, ChanX, ChanY, Ipin, Sink as SinkKind}
use Rattle.fpga_types.specs.declared.route.Label.TheVariants.{Class, Pin}
use Rattle.fpga_types.specs.declared.route.RouteNet.{RouteNet}
use Rattle.fpga_types.specs.declared.route.RouteText.{RouteText}
use Rattle.list_laws.proofs.Members.{In, all-from_In}
use Rattle.list_laws.proofs.Numbered.{numbered-there}
use Rattle.list_laws.proofs.Places.{get-map, some_is}
use Rattle.route_gen.specs.Draws.{location_of, nets_into}
use Rattle.route_gen.specs.Laws.{HasBlocks, HasNets, architecture_of_all}
use Rattle.route_gen.specs.Netlists.{net_name}
use Rattle.route_gen.specs.Routes.{route_net, route_nets}
use Rattle.route_gen.specs.Traces.{cells, channel, elem_at, trace}
use Rattle.route_gen.specs.declared.draws.Sink.{Sink}
use Rattle.route_gen.specs.declared.location.Location.{Location}
use Rattle.route_gen.specs.declared.trace.TheConstants.{INPUT_CLASS, OUTPUT_CLASS, OUTPUT_PIN}
use Rattle.route_gen.proofs.BareLemmas.{IsClean}
use Rattle.route_gen.proofs.InputLemmas.{AreTaken}
use Rattle.route_gen.proofs.DrawLemmas.{IsInput}
use Rattle.route_gen.proofs.NameLemmas.{net-other, place-other}
use Rattle.route_gen.proofs.TerminalLemmas.{class_there, driver, ends, input-is, known, problem}
use Rattle.route_gen.proofs.TraceLemmas.{IsPlace, all_joined, block-place}
use Rattle.route_gen.proofs.WalkLemmas.{apart-place, at-place, in-all, last-place, linked-place}
use Rattle.route_gen.proofs.WayLemmas.{IsNext, cells-all, device, trace-apart, trace-linked}

-- a net that stands before another
pub record IsEarlier (side : ℕ) (sinks : List Sink) (before : ℕ) (net : RouteNet) : Type 0 where
  pub number : ℕ
  pub sink : Sink
  pub below : number < before
  pub there : slice_get sinks number ≡ Some sink
  pub is : net ≡ route_net side (number, sink)

-- a net and those before it
pub record IsThere (side : ℕ) (sinks : List Sink) (s : List RouteNet × RouteNet × List RouteNet)
    : Type 0 where
  pub number : ℕ
  pub sink : Sink
  pub there : slice_get sinks number ≡ Some sink
  pub is : s.1 ≡ route_net side (number, sink)
  pub earlier : (net : RouteNet) → In s.0 net → IsEarlier side sinks number net

-- a net of the route, by its number
record IsNumbered (side : ℕ) (sinks : List Sink) (number : ℕ) (net : RouteNet) : Type 0 where
  sink : Sink
  there : slice_get sinks number ≡ Some sink
  is : net ≡ route_net side (number, sink)

numbered-net : (side : ℕ) (sinks : List Sink) (k : ℕ) (net : RouteNet) →
    slice_get (route_nets side sinks) k ≡ Some net → IsNumbered side sinks k net
numbered-net side sinks k net here = grind (arith, get-map, numbered-there, zero-add)

pub net-there : (side : ℕ) (sinks : List Sink) (s : List RouteNet × RouteNet × List RouteNet) →
    In (splits (route_nets side sinks)) s → IsThere side sinks s
net-there side sinks s i =
    let at = at-place (route_nets side sinks) s i in
    let here = numbered-net side sinks at.place s.1 at.here in
    record {
      number = at.place;
      sink = here.sink;
      there = here.there;
      is = here.is;
      earlier = λ net j.
          let before = at.before net j in
          let other = numbered-net side sinks before.at net before.there in
          record {
            number = before.at;
            sink = other.sink;
            below = before.below;
            there = other.there;
            is = other.is;
          };
    }

-- a test that fails at each element
any-off : {T : Type 0} (p : T → Bool) (xs : List T) → AllByRecursion (λ x. p x ≡ false) xs →
    list_any p xs ≡ false
any-off p [] all = refl
any-off p (x ∷ xs) all = ap (λ (b : Bool). b || list_any p xs) all.0 ∙ any-off p xs all.1

-- pins at two places, or with two numbers
pins-apart : (a b : Elem) → (a.x == b.x && a.y == b.y) ≡ false → same_pin a b ≡ false
pins-apart a b apart = grind arith

pins-differ : (a b : Elem) → (a.number == b.number) ≡ false → same_pin a b ≡ false
pins-differ a b differ = grind arith

module _ (side : ℕ) (some : 1 ≤ side) (sinks : List Sink) (netlist : Netlist) (route : RouteText)
    (blocks : HasBlocks side netlist) (nets : HasNets sinks netlist)
    (few : length sinks ≤ 10000) (within : length sinks ≤ side * side) (taken : AreTaken sinks)
    (inputs : All (IsInput side) sinks) where
  abbrev p : RoutingProblem
  p = problem side sinks netlist route blocks nets few

  -- the element is where its netlist and its placement have it, and its pin is its own
  record IsFine (name : List ℕ) (earlier : List RouteNet) (e : Elem) : Type 0 where
    source : (is_source e.kind && not (option_map_or (is_terminal e) (driver_named p name) false))
        ≡ false
    sink : (is_sink e.kind && not (list_any (is_terminal e) (sinks_named p name))) ≡ false
    opin : (is_opin e.kind && not (option_map_or
        (λ (at : Terminal). is_ordinary_pin_at architecture_of_all at e) (driver_named p name)
        false)) ≡ false
    ipin : (is_ipin e.kind && not (is_input p e)) ≡ false
    alone : is_pin_of earlier e ≡ false

  -- where a net ends
  input-there : (net : ℕ) (sink : Sink) → slice_get sinks net ≡ Some sink → IsInput side sink
  input-there net sink there =
      subst (λ (s : Sink). IsInput side s) (get_or_from_slice_get sinks net sink sink there)
      (inputs net sink (slice_get_within sinks net sink there))

  module _ (net : ℕ) (sink : Sink) (there : slice_get sinks net ≡ Some sink)
      (earlier : List RouteNet)
      (before : (other : RouteNet) → In earlier other → IsEarlier side sinks net other) where
    below : net < length sinks
    below = slice_get_within sinks net sink there

    abbrev start : Location
    start = location_of side net

    abbrev end : Location
    end = location_of side sink.block

    start-place : IsPlace side start
    start-place = let b = below in block-place side net some (omega arith)

    end-place : IsPlace side end
    end-place = block-place side sink.block some (input-there net sink there).block

    ends_here : sinks_named p (net_name net) ≡ class_there end INPUT_CLASS ∷ []
    ends_here = let i = input-there net sink there in
        ends side sinks netlist route blocks nets few net sink there below i.block i.pin

    starts_here : driver_named p (net_name net) ≡ Some (class_there start OUTPUT_CLASS)
    starts_here = let b = below in
        driver side sinks netlist route blocks nets few net below (omega arith)

    -- an element that is no pin
    no-pin : (e : Elem) → is_pin e.kind ≡ false → is_pin_of earlier e ≡ false
    no-pin e none = grind (arith, list_any_none, all-from_In)

    -- a pin that no earlier net has
    own-pin : (e : Elem) → ((other : ℕ) (end_of : Sink) → other < net →
        slice_get sinks other ≡ Some end_of →
        (same_pin e (elem_at Opin (location_of side other) Pin OUTPUT_PIN) ≡ false)
        × (same_pin e (elem_at Ipin (location_of side end_of.block) Pin end_of.pin) ≡ false)) →
        is_pin e.kind ≡ true → is_pin_of earlier e ≡ false
    own-pin e apart is =
        list_any_none (λ (other : RouteNet). list_any (same_pin e) other.elems) earlier
        (all-from_In (λ (other : RouteNet). list_any (same_pin e) other.elems ≡ false) earlier
        (λ other i.
        let b = before other i in
        let r = apart b.number b.sink b.below b.there in
        ap (λ (n : RouteNet). list_any (same_pin e) n.elems) b.is
        ∙ any-off (same_pin e) (trace (location_of side b.number)
        (location_of side b.sink.block) b.sink.pin) (
          none (elem_at Source (location_of side b.number) Class OUTPUT_CLASS) refl,
          (
            r.0,
            all_joined (λ x. same_pin e x ≡ false)
                (cells (location_of side b.number) (location_of side b.sink.block))
                (elem_at Ipin (location_of side b.sink.block) Pin b.sink.pin
                ∷ elem_at SinkKind (location_of side b.sink.block) Class INPUT_CLASS ∷ [])
                (cells-all (λ x. same_pin e x ≡ false) (location_of side b.number)
                (location_of side b.sink.block) (λ x y. none (channel ChanX x y) refl)
                (λ x y. none (channel ChanY x y) refl)) (
                  r.1,
                  (
                    none (elem_at SinkKind (location_of side b.sink.block) Class INPUT_CLASS)
                        refl,
                    tt,
                  ),
                ),
          ),
        )))
      where
        none : (x : Elem) → is_pin x.kind ≡ false → same_pin e x ≡ false
        none x off = (λ k. is_pin e.kind && off k && same_place e x && e.number == x.number)
            ∙ go (is_pin e.kind)
          where
            go : (f : Bool) → (f && false && same_place e x && e.number == x.number) ≡ false
            go true = refl
            go false = refl

    fine-source : IsFine (net_name net) earlier (elem_at Source start Class OUTPUT_CLASS)
    fine-source = grind (arith, eq-eqb, starts_here, no-pin)

    fine-opin : IsFine (net_name net) earlier (elem_at Opin start Pin OUTPUT_PIN)
    fine-opin =
        let e = elem_at Opin start Pin OUTPUT_PIN in
        let x = eq-eqb start.column start.column refl in
        let y = eq-eqb start.row start.row refl in
        let is = starts_here in
        record {
          source = refl;
          sink = refl;
          opin = (λ i. true && not (option_map_or
              (λ (at : Terminal). is_ordinary_pin_at architecture_of_all at e) (is i) false))
              ∙ (λ i. not ((x i && y i && true) && true));
          ipin = refl;
          alone = own-pin e (λ other end_of less is_there. (
            pins-apart e (elem_at Opin (location_of side other) Pin OUTPUT_PIN)
                (place-other side net other some (λ same. omega (arith, less, same))),
            pins-differ e (elem_at Ipin (location_of side end_of.block) Pin end_of.pin)
                (ne_eqb OUTPUT_PIN end_of.pin (λ same.
                let i = (input-there other end_of is_there).pin in omega (arith, i, same))),
          )) refl;
        }

    fine-ipin : IsFine (net_name net) earlier (elem_at Ipin end Pin sink.pin)
    fine-ipin =
        let e = elem_at Ipin end Pin sink.pin in
        let here = input-there net sink there in
        record {
          source = refl;
          sink = refl;
          opin = refl;
          ipin = ap not (input-is side sinks netlist route blocks nets few sink.block sink.pin
              here.block here.pin);
          alone = own-pin e (λ other end_of less is_there. (
            pins-differ e (elem_at Opin (location_of side other) Pin OUTPUT_PIN)
                (ne_eqb sink.pin OUTPUT_PIN (λ same.
                let i = here.pin in omega (arith, i, same))),
            elim (cases_eq sink.block end_of.block) [
              | inl same ↦ pins-differ e
                  (elem_at Ipin (location_of side end_of.block) Pin end_of.pin)
                  (ne_eqb sink.pin end_of.pin (λ pin.
                  let one : Some net ≡ Some other
                  = sym (taken.taken net sink there)
                  ∙ (λ i. slice_get (nets_into sinks (same i)) (pin i))
                  ∙ taken.taken other end_of is_there in
                  let number : net ≡ other = some_is one in omega (arith, less, number)))
              | inr apart ↦ pins-apart e
                  (elem_at Ipin (location_of side end_of.block) Pin end_of.pin)
                  (place-other side sink.block end_of.block some apart)
            ],
          )) refl;
        }

    fine-sink : IsFine (net_name net) earlier (elem_at SinkKind end Class INPUT_CLASS)
    fine-sink = grind (arith, eq-eqb, ends_here, no-pin)

    fine-all : AllByRecursion (IsFine (net_name net) earlier) (trace start end sink.pin)
    fine-all = (
      fine-source,
      (
        fine-opin,
        all_joined (IsFine (net_name net) earlier) (cells start end)
            (elem_at Ipin end Pin sink.pin ∷ elem_at SinkKind end Class INPUT_CLASS ∷ [])
            (cells-all (IsFine (net_name net) earlier) start end
            (λ x y. record {
              source = refl;
              sink = refl;
              opin = refl;
              ipin = refl;
              alone = no-pin (channel ChanX x y) refl;
            })
            (λ x y. record {
              source = refl;
              sink = refl;
              opin = refl;
              ipin = refl;
              alone = no-pin (channel ChanY x y) refl;
            }))
            (fine-ipin, (fine-sink, tt)),
      ),
    )

    -- no earlier net has its name
    new-name : has_net earlier (net_name net) ≡ false
    new-name = list_any_none (λ (other : RouteNet). bytes_eq other.name (net_name net)) earlier
        (all-from_In (λ (other : RouteNet). bytes_eq other.name (net_name net) ≡ false) earlier
        (λ other i.
        let b = before other i in let less = b.below in let most = below in
        ap (λ (n : RouteNet). bytes_eq n.name (net_name net)) b.is
        ∙ net-other b.number net (omega arith) (omega arith) (λ same. omega (arith, same, less))))

    abbrev net_of_route : RouteNet
    net_of_route = route_net side (net, sink)

    -- its Net line
    pub head-clean : IsClean (device side) (problem_context p (record {
      earlier = earlier;
      net = net_of_route;
      before = [];
      elem = None;
      after = trace start end sink.pin;
    }))
    head-clean =
        let is = known side sinks netlist route blocks nets few net below in
        let more = ne_eqb (length (trace start end sink.pin)) 0 (λ none. omega (arith, none)) in
        record {
          known = λ i. not (is i);
          first = new-name;
          source = refl;
          sink = refl;
          once = λ i. true && more i
              && not (list_all (has_sink []) (sinks_named p (net_name net)));
          pin = refl;
          near = refl;
          meets = refl;
          new = refl;
          joined = refl;
          alone = refl;
          order = λ i. true && (false || more i && not false);
        }

    -- where a line ends the net, each sink has its line
    abbrev sink_here : Elem
    sink_here = elem_at SinkKind end Class INPUT_CLASS

    whole : trace start end sink.pin
        ≡ (elem_at Source start Class OUTPUT_CLASS ∷ elem_at Opin start Pin OUTPUT_PIN
        ∷ cells start end ++ elem_at Ipin end Pin sink.pin ∷ []) ++ sink_here ∷ []
    whole = grind (arith, append_assoc)

    -- the line of an element
    pub elem-clean : (s : List Elem × Elem × List Elem) → In (splits (trace start end sink.pin)) s →
        IsClean (device side) (problem_context p (record {
          earlier = earlier;
          net = net_of_route;
          before = s.0;
          elem = Some s.1;
          after = s.2;
        }))
    elem-clean s i =
        let here = input-there net sink there in
        let next = linked-place (IsNext side) None (trace start end sink.pin) s
        (trace-linked side start end sink.pin start-place end-place here.pin) i in
        let new = apart-place same_elem (trace start end sink.pin) s
        (trace-apart side start end sink.pin start-place end-place here.pin) i in
        let fine = in-all (IsFine (net_name net) earlier) (trace start end sink.pin) s.1 fine-all
        (place-in (trace start end sink.pin) s i) in
        let last = last-place (elem_at Source start Class OUTPUT_CLASS
        ∷ elem_at Opin start Pin OUTPUT_PIN
        ∷ cells start end ++ elem_at Ipin end Pin sink.pin ∷ []) sink_here s
        (subst (λ (es : List Elem). In (splits es) s) whole i) in
        record {
          known = refl;
          first = refl;
          source = fine.source;
          sink = fine.sink;
          once = (λ k. is_sink s.1.kind && new k || lacking s last k) ∙ off_or (is_sink s.1.kind);
          pin = λ k. fine.opin k || fine.ipin k || next.stays k;
          near = λ k. next.opin k || next.ipin k;
          meets = next.meets;
          new = (λ k. not (is_sink s.1.kind) && not (next.branch k) && new k)
              ∙ off_and (not (is_sink s.1.kind));
          joined = (λ k. not (is_ipin s.1.kind) && not (is_sink s.1.kind) && next.branch k
              && not (list_any (same_elem s.1) s.0))
              ∙ off_branch (not (is_ipin s.1.kind)) (not (is_sink s.1.kind))
              (not (list_any (same_elem s.1) s.0));
          alone = fine.alone;
          order = (λ k. true && (not (next.order k) || length s.2 == 0 && not (is_sink s.1.kind)))
              ∙ ends-sink s last;
        }
      where
        off_or : (a : Bool) → (a && false || false) ≡ false
        off_or true = refl
        off_or false = refl

        off_and : (a : Bool) → (a && true && false) ≡ false
        off_and true = refl
        off_and false = refl

        off_branch : (a b c : Bool) → (a && b && false && c) ≡ false
        off_branch true true c = refl
        off_branch true false c = refl
        off_branch false b c = refl

        lacking : (s : List Elem × Elem × List Elem) →
            (0 < length s.2) ⊎ ((s.1 ≡ sink_here) × (s.2 ≡ [])) →
            lacks_sink p (record {
              earlier = earlier;
              net = net_of_route;
              before = s.0;
              elem = Some s.1;
              after = s.2;
            }) ≡ false
        lacking s (inl more) = grind (arith, ne_eqb)
        lacking s (inr is) = grind (arith, ends_here, list_any-append, class_there, eq-eqb)

        ends-sink : (s : List Elem × Elem × List Elem) →
            (0 < length s.2) ⊎ ((s.1 ≡ sink_here) × (s.2 ≡ [])) →
            (true && (false || length s.2 == 0 && not (is_sink s.1.kind))) ≡ false
        ends-sink s (inl more) = grind (arith, ne_eqb)
        ends-sink s (inr is) = λ k. length (is.1 k) == 0 && not (is_sink (is.0 k).kind)

-- What each ordinary net has in a routed file that nothing is against: it is routed, with the wires
-- and pins on its lines.
use Rattle.std.proofs.Common.{◌≡◌, ℕ, ◌+◌, ◌<◌, Bool, true, false, Option, Some, None, List, [], take, refl, sym, ap, subst, inl, inr, ◌∙◌, arith}
use Rattle.std.specs.Prelude.{◌&&◌, ◌==◌, All, Contains, bytes_eq, filter_map, map, nat_le, nat_lt, not, option_and_then, option_map, slice_get, zip}
use Rattle.std.specs.List.{list_all}
use Rattle.std.specs.Option.{option_map_or}
use Rattle.std.proofs.lemmas.Bool.{cases_lt, eqb-true, false_from_ne_true, false≢true, ltb-true, not-false, true_from_ne_false}
use Rattle.std.proofs.lemmas.List.Sums.{AllPass-from_list_all}
use Rattle.std.proofs.lemmas.Option.{get_or_from_slice_get, slice_get_within}
use Rattle.list_laws.proofs.Members.{In, In-all, In-append_cases, In-list_any, all-from_In, contains-In, from_In-filter_map, from_In-map, list_any-from_In}
use Rattle.list_laws.proofs.Places.{In-place, find-first, get-In, get-take, some_is}
use Rattle.fpga_graph.specs.GraphOf.{GraphOf}
use Rattle.fpga_text.specs.Bytes.{Bytes}
use Rattle.fpga_text.specs.FirstFault.{IsFaultless}
use Rattle.fpga_types.specs.Fabric.{is_cell}
use Rattle.fpga_types.specs.Fits.{agree, has_net, has_sink, same_size}
use Rattle.fpga_types.specs.Placed.{IsNetRouted, IsWay, IsWire, NetWires, Way, net_pins, way_wires}
use Rattle.fpga_types.specs.Problem.{PlacedNetlist, RoutingProblem}
use Rattle.fpga_types.specs.Size.{Size}
use Rattle.fpga_types.specs.Slots.{channel_at, elem_pin}
use Rattle.fpga_types.specs.Sound.{IsSound, IsSoundElem, IsSoundNet}
use Rattle.fpga_types.specs.Terminals.{driver_in, driver_named, driver_of, is_input, is_input_of, is_net_named, is_ordinary, net_named, placed_blocks, sinks_in, sinks_named, sinks_of, takes_in}
use Rattle.fpga_types.specs.declared.arch.Arch.{Arch}
use Rattle.fpga_types.specs.declared.arch.PinSpec.{PinSpec}
use Rattle.fpga_types.specs.declared.grid.Cell.{Cell}
use Rattle.fpga_types.specs.declared.grid.PinAt.{PinAt}
use Rattle.fpga_types.specs.declared.grid.Wire.{Wire}
use Rattle.fpga_types.specs.declared.netlist.Block.{Block}
use Rattle.fpga_types.specs.declared.netlist.BlockKind.{BlockKind}
use Rattle.fpga_types.specs.declared.netlist.BlockKind.TheVariants.{Input, Output, Logic}
use Rattle.fpga_types.specs.declared.netlist.Net.{Net}
use Rattle.fpga_types.specs.declared.placement.Place.{Place}
use Rattle.fpga_types.specs.declared.problem.Terminal.{Terminal}
use Rattle.fpga_types.specs.declared.route.Elem.{Elem}
use Rattle.fpga_types.specs.declared.route.Label.{Label}
use Rattle.fpga_types.specs.declared.route.Label.TheVariants.{Class, Pin, Pad, Track}
use Rattle.fpga_types.specs.declared.route.RouteNet.{RouteNet}
use Rattle.fpga_types.specs.declared.route.RouteText.{RouteText}
use Rattle.fpga_types.proofs.MeetingLemmas.{both_true}
use Rattle.fpga_types.proofs.NameLaws.{name_itself, same_name}
use Rattle.route_judge.specs.Judged.{placed_route_causes, problem_with}
use Rattle.route_judge.specs.Says.{HasOwnEnds}
use Rattle.route_judge.proofs.CleanLines.{all-there, known, one-size, sinks-there, tree-line}
use Rattle.route_judge.proofs.LeadLemmas.{AreServed, IsTreeLine, Served, all-served}
use Rattle.route_verify.specs.Judged.{graph_of}
use Rattle.route_verify.specs.Wiring.{elem_wire, is_past_width}

-- a pin that takes a net in takes ordinary ones
takes-ordinary : (arch : Arch) (kind : BlockKind) (sub : ℕ) (label : Label) (n : ℕ)
    → takes_in arch kind sub label n ≡ true → is_ordinary arch label n ≡ true
takes-ordinary arch Logic sub Pin n takes = go (slice_get arch.pins n) takes
  where
    go : (o : Option PinSpec)
        → option_map_or (λ (spec : PinSpec). not spec.output && not spec.global) o false ≡ true
        → option_map_or (λ (spec : PinSpec). not spec.global) o false ≡ true
    go None h = h
    go (Some spec) h = (both_true (not spec.output) (not spec.global) h).1
takes-ordinary arch Input sub Pin n takes = absurd (false≢true takes)
takes-ordinary arch Output sub Pin n takes = absurd (false≢true takes)
takes-ordinary arch kind sub Class n takes = refl
takes-ordinary arch kind sub Pad n takes = refl
takes-ordinary arch kind sub Track n takes = refl

input-ordinary : (p : RoutingProblem) (e : Elem) → is_input p e ≡ true
    → is_ordinary p.arch e.label e.number ≡ true
input-ordinary p e input =
    let block = In-list_any (is_input_of p.arch e) (placed_blocks p) input in
    let b : Block × Place = block.0 in
    takes-ordinary p.arch b.0.kind b.1.sub e.label e.number
    (both_true (e.x == b.1.x && e.y == b.1.y)
    (takes_in p.arch b.0.kind b.1.sub e.label e.number) block.2).1

-- sizes that pass as one are one
pub same_size-is : (a b : Size) → same_size a b ≡ true → a ≡ b
same_size-is a b same =
    let parts = both_true (a.nx == b.nx) (a.ny == b.ny) same in
    let nx = eqb-true a.nx b.nx parts.0 in
    let ny = eqb-true a.ny b.ny parts.1 in
    λ i. record { nx = nx i; ny = ny i }

-- what a net of the netlist has, on the lines of a net of the file
pub record IsNetSaid (placed : PlacedNetlist) (width : ℕ) (found : RouteText) (net : Net)
    (has : NetWires) : Type 0 where
  pub at : ℕ
  pub traced : RouteNet
  pub here : slice_get found.nets at ≡ Some traced
  pub name : traced.name ≡ net.name
  pub plain : traced.global ≡ false
  pub sinks : sinks_named (problem_with placed found) traced.name ≡ sinks_in placed net
  pub routed : IsNetRouted placed width net has
  pub wires : has.wires ≡ filter_map elem_wire traced.elems
  pub pins : (pin : PinAt) → In (net_pins has) pin
      → (e : Elem) × In traced.elems e × (elem_pin e ≡ Some pin)

module _ (strict : Bool) (width : ℕ) (placed : PlacedNetlist) (found : RouteText)
    (sound : IsSound found) (own : HasOwnEnds placed)
    (clean : IsFaultless (placed_route_causes strict width (problem_with placed found))) where
  abbrev p : RoutingProblem
  p = problem_with placed found

  abbrev g : GraphOf
  g = record { arch = placed.arch; grid = placed.placement.grid; width = width }

  grids : found.grid ≡ placed.placement.grid
  grids = sym (same_size-is placed.placement.grid found.grid (one-size strict width p clean))

  fabric : graph_of width p ≡ g
  fabric = λ i. record { arch = placed.arch; grid = grids i; width = width }

  -- nets with one name are one
  pub same-net : (a b : ℕ) (net other : Net) → slice_get placed.netlist.nets a ≡ Some net
      → slice_get placed.netlist.nets b ≡ Some other → net.name ≡ other.name → a ≡ b
  same-net a b net other here there names =
      elim (cases_lt a b) [
        | inl before ↦ absurd (clash a b net other here there names before)
        | inr not_before ↦ elim (cases_lt b a) [
          | inl behind ↦ absurd (clash b a other net there here (sym names) behind)
          | inr not_behind ↦ omega (arith, not_before, not_behind)
        ]
      ]
    where
      clash : (a b : ℕ) (net other : Net) → slice_get placed.netlist.nets a ≡ Some net
          → slice_get placed.netlist.nets b ≡ Some other → net.name ≡ other.name → a < b → ⊥
      clash a b net other here there names before =
          let nets : List Net = placed.netlist.nets in
          own.names a b net before (slice_get_within nets b other there)
          (ap (λ (n : Net). n.name) (get_or_from_slice_get nets a net net here) ∙ names
          ∙ sym (ap (λ (n : Net). n.name) (get_or_from_slice_get nets b other net there)))

  module _ (number : ℕ) (net : Net) (here : slice_get placed.netlist.nets number ≡ Some net)
      (ordinary : net.global ≡ false) where
    -- it is the net with its name
    named : (name : Bytes) → name ≡ net.name → net_named p name ≡ Some net
    named name same =
        ap (net_named p) same
        ∙ find-first (is_net_named net.name) placed.netlist.nets number net here
        (false_from_ne_true _ (λ earlier.
        let other = In-list_any (is_net_named net.name) (take number placed.netlist.nets) earlier in
        let spot = In-place (take number placed.netlist.nets) other.0 other.1 in
        let place = get-take placed.netlist.nets number spot.0 other.0 spot.1 in
        let one = same-net spot.0 number other.0 net place.1 here
        (same_name other.0.name net.name other.2) in
        omega (arith, place.0, one)))
        (name_itself net.name)

    -- the file has a net with its name
    there : has_net found.nets net.name ≡ true
    there = true_from_ne_false _ (λ none.
        false≢true (sym (all-there strict width p clean)
        ∙ list_any-from_In (λ (n : Net). not n.global && not (has_net found.nets n.name))
        placed.netlist.nets net (get-In placed.netlist.nets number net here)
        (λ k. not (ordinary k) && not (none k))))

    module _ (n : ℕ) (traced : RouteNet) (at : slice_get found.nets n ≡ Some traced)
        (name : traced.name ≡ net.name) where
      plain : traced.global ≡ false
      plain = go traced.global (sym (ap (λ (o : Option Net).
          option_map_or (λ (m : Net). agree m.global traced.global) o false)
          (named traced.name name)) ∙ known strict width p clean n traced at)
        where
          go : (b : Bool) → agree net.global b ≡ true → b ≡ false
          go false h = refl
          go true h = absurd (false≢true (sym (ap (λ (c : Bool). agree c true) ordinary) ∙ h))

      sinks : sinks_named p traced.name ≡ sinks_in placed net
      sinks = ap (λ (o : Option Net). option_map_or (sinks_of p) o []) (named traced.name name)

      driver : driver_named p traced.name ≡ driver_in placed net
      driver = ap (option_and_then (driver_of p)) (named traced.name name)

      tree : (k : ℕ) (e : Elem) → slice_get traced.elems k ≡ Some e
          → IsTreeLine g (driver_named p traced.name) (is_input p) (take k traced.elems) e
      tree k e there = subst (λ (h : GraphOf). IsTreeLine h (driver_named p traced.name)
          (is_input p) (take k traced.elems) e) fabric
          (tree-line strict width p clean n traced at k e there plain)

      abbrev IsServed : Terminal → Type 0
      IsServed = Served g (driver_named p traced.name) (is_input p) (input-ordinary p) traced.elems
          tree

      ways : AreServed g (driver_named p traced.name) (is_input p) (input-ordinary p) traced.elems
          tree (sinks_in placed net)
      ways = all-served g (driver_named p traced.name) (is_input p) (input-ordinary p)
          traced.elems tree (sinks_in placed net) (λ sink among.
          In-all (λ (t : Terminal). has_sink traced.elems t ≡ true) (sinks_in placed net) sink
          (AllPass-from_list_all (has_sink traced.elems) (sinks_in placed net)
          (subst (λ (ts : List Terminal). list_all (has_sink traced.elems) ts ≡ true) sinks
          (sinks-there strict width p clean n traced at plain))) among)

      abbrev has : NetWires
      has = record { wires = filter_map elem_wire traced.elems; ways = ways.ways }

      -- its wires are those of the array
      in-array : (wire : Wire) → In has.wires wire → IsWire placed.placement.grid width wire
      in-array wire among =
          let line = from_In-filter_map elem_wire traced.elems wire among in
          let spot = In-place traced.elems line.0 line.1 in
          record {
            there = ap (λ (size : Size). is_cell size wire.cell) (sym grids)
                ∙ cell-there line.0 wire line.2
                (In-all (IsSoundElem found.grid) traced.elems line.0
                (In-all (IsSoundNet found.grid) found.nets traced sound.nets
                (get-In found.nets n traced at)).elems line.1);
            within = below line.0 wire line.2 (tree spot.0 line.0 spot.1).low;
          }
        where
          cell-there : (e : Elem) (w : Wire) → elem_wire e ≡ Some w → IsSoundElem found.grid e
              → is_cell found.grid w.cell ≡ true
          cell-there e w is good = go (channel_at e.kind e.x e.y) is good.place
            where
              go : (o : Option Cell)
                  → option_map {T = Cell} {U = Wire}
                  (λ cell. record { cell = cell; track = e.number }) o ≡ Some w
                  → option_map_or (is_cell found.grid) o
                  (nat_le e.x (found.grid.nx + 1) && nat_le e.y (found.grid.ny + 1)) ≡ true
                  → is_cell found.grid w.cell ≡ true
              go None h place = cc
              go (Some cell) h place =
                  ap (is_cell found.grid) (sym (ap (λ (v : Wire). v.cell) (some_is h))) ∙ place

          below : (e : Elem) (w : Wire) → elem_wire e ≡ Some w → is_past_width g (Some e) ≡ false
              → w.track < width
          below e w is low = ltb-true w.track width (not-false (nat_lt w.track width)
              (sym (ap (λ (o : Option Wire).
              option_map_or (λ (wire : Wire). not (nat_lt wire.track width)) o false) is) ∙ low))

      routed : IsNetRouted placed width net has
      routed = record {
        there = all-from_In (IsWire placed.placement.grid width) has.wires in-array;
        own = all-from_In (λ (way : Way). All (Contains has.wires) (way_wires way)) ways.ways
            (λ way among.
            let s = (ways.of way among).2 in
            all-from_In (Contains has.wires) (way_wires way) (λ w inside.
            contains-In has.wires w (s.0.own w
            (subst (λ (v : Way). In (way_wires v) w) (sym s.1) inside))));
        each = ways.count;
        ways = all-from_In (λ (at : Terminal × Way). (d : Terminal)
            × (driver_in placed net ≡ Some d) × IsWay placed width d at.0 at.1)
            (zip (sinks_in placed net) ways.ways) (λ pair among.
            let s = ways.each pair among in (
              s.0.at,
              sym driver ∙ s.0.drives,
              subst (IsWay placed width s.0.at pair.0) s.1 (record {
                leaves = s.0.leaves;
                starts = s.0.starts;
                joined = s.0.turn;
                ends = s.0.ends;
                enters = s.0.enters;
              }),
            ));
        pins = ways.apart (own.ends number net here ordinary);
      }

      on-pins : (pin : PinAt) → In (net_pins has) pin
          → (e : Elem) × In traced.elems e × (elem_pin e ≡ Some pin)
      on-pins pin among =
          elim (In-append_cases (map (λ (way : Way). way.leaves) ways.ways)
          (map (λ (way : Way). way.enters) ways.ways) pin among) [
            | inl leaving ↦
                let made = from_In-map (λ (way : Way). way.leaves) ways.ways pin leaving in
                let s = (ways.of made.0 made.1).2 in (
                  s.0.out.0,
                  s.0.out.1,
                  s.0.out.2
                      ∙ ap (λ (q : PinAt). Some q) (ap (λ (way : Way). way.leaves) s.1 ∙ made.2),
                )
            | inr entering ↦
                let made = from_In-map (λ (way : Way). way.enters) ways.ways pin entering in
                let s = (ways.of made.0 made.1).2 in (
                  s.0.enter.0,
                  s.0.enter.1,
                  s.0.enter.2
                      ∙ ap (λ (q : PinAt). Some q) (ap (λ (way : Way). way.enters) s.1 ∙ made.2),
                )
          ]

      net-has : (w : NetWires) × IsNetSaid placed width found net w
      net-has = (
        has,
        record {
          at = n;
          traced = traced;
          here = at;
          name = name;
          plain = plain;
          sinks = sinks;
          routed = routed;
          wires = refl;
          pins = on-pins;
        },
      )

    pub net-said : (w : NetWires) × IsNetSaid placed width found net w
    net-said =
        let other = In-list_any (λ (r : RouteNet). bytes_eq r.name net.name) found.nets there in
        let place = In-place found.nets other.0 other.1 in
        net-has place.0 other.0 place.1 (same_name other.0.name net.name other.2)

-- What the texts of a generated problem read as fits, but that there may be too many slots.
use Rattle.std.proofs.Common.{rules, ◌≡◌, ℕ, ◌*◌, ◌<◌, ◌≤◌, true, false, Option, Some, None, List, [], ◌∷◌, length, refl, sym, ap, subst, ◌∙◌, inl, inr, arith, get_or, zero-add}
use Rattle.std.specs.Prelude.{All, bytes_eq, map}
use Rattle.std.specs.List.{AllByRecursion, enumerate_from}
use Rattle.std.specs.Option.{option_or}
use Rattle.std.proofs.lemmas.Bool.{eq-eqb}
use Rattle.std.proofs.lemmas.List.Elements.{All-tail}
use Rattle.std.proofs.lemmas.List.Folds.{list_any_none}
use Rattle.std.proofs.lemmas.Simd.{map-map}
use Rattle.fpga_text.specs.FirstFault.{first_fault}
use Rattle.fpga_text.specs.declared.fault.TextFault.{TextFault}
use Rattle.fpga_types.specs.Fit.{RouteLine, net_lines, route_lines, splits}
use Rattle.fpga_types.specs.Fits.{array_fault, device_of, end_fault, has_net, net_line_fault, problem_context, problem_faults}
use Rattle.fpga_types.specs.Problem.{RoutingProblem, problem_of}
use Rattle.fpga_types.specs.Size.{Size}
use Rattle.fpga_types.specs.declared.limits.TheConstants.{SIDE_LIMIT}
use Rattle.fpga_types.specs.declared.netlist.Netlist.{Netlist}
use Rattle.fpga_types.specs.declared.route.Elem.{Elem}
use Rattle.fpga_types.specs.declared.route.ElemKind.TheVariants.{Ipin, Sink as SinkKind}
use Rattle.fpga_types.specs.declared.route.Label.TheVariants.{Class, Pin}
use Rattle.fpga_types.specs.declared.route.RouteNet.{RouteNet}
use Rattle.fpga_types.specs.declared.route.RouteText.{RouteText}
use Rattle.fpga_place.specs.Value.{place_value}
use Rattle.fpga_route.specs.ReadBack.{SameButLines, elem_without_line, net_without_lines, without_lines}
use Rattle.list_laws.proofs.Members.{In, In-all, In-append_cases, In-map, all-from_In, from_In-flat_map, from_In-map, list_any-from_In}
use Rattle.list_laws.proofs.Numbered.{In-enumerate}
use Rattle.list_laws.proofs.Rows.{map-alike}
use Rattle.route_gen.specs.Draws.{location_of, sinks_of}
use Rattle.route_gen.specs.Fitting.{AreRead, FitsButForSlots, IsForSlots}
use Rattle.route_gen.specs.Generated.{generated}
use Rattle.route_gen.specs.Laws.{HasBlocks, HasNets, architecture_of_all, netlist_of_all, placement_of}
use Rattle.route_gen.specs.Netlists.{net_name}
use Rattle.route_gen.specs.Placements.{generated_placement}
use Rattle.route_gen.specs.Routes.{route_net, route_nets, route_to}
use Rattle.route_gen.specs.Traces.{cells, elem_at, trace}
use Rattle.route_gen.specs.declared.draws.Sink.{Sink}
use Rattle.route_gen.specs.declared.location.Location.{Location}
use Rattle.route_gen.specs.declared.trace.TheConstants.{INPUT_CLASS}
use Rattle.route_gen.proofs.BareLemmas.{IsClean, any-changed, bare-lines, bare_line, clean-fault, line-clean}
use Rattle.route_gen.proofs.DrawLemmas.{IsInput, drawing-length, sinks-inputs}
use Rattle.route_gen.proofs.FitLemmas.{elem-clean, head-clean, net-there}
use Rattle.route_gen.proofs.InputLemmas.{AreTaken, sinks-taken}
use Rattle.route_gen.proofs.NetlistLemmas.{netlist-blocks, netlist-nets, netlist-reads}
use Rattle.route_gen.proofs.PlaceLemmas.{square}
use Rattle.route_gen.proofs.PlacementLemmas.{placement-reads}
use Rattle.route_gen.proofs.ReadingLemmas.{route-reads}
use Rattle.route_gen.proofs.TerminalLemmas.{problem}
use Rattle.route_gen.proofs.TraceLemmas.{all_joined, square_of}
use Rattle.route_gen.proofs.WayLemmas.{cells-all, device}
use Rattle.route_gen.proofs.NameLemmas.{net-same}

-- the route has no numbers of lines
bare-same : (xs : List Elem) → AllByRecursion (λ e. elem_without_line e ≡ e) xs →
    map elem_without_line xs ≡ xs
bare-same [] all = refl
bare-same (x ∷ xs) all = grind (arith, (bare-same xs all.1))

bare-trace : (driver sink : Location) (pin : ℕ) →
    map elem_without_line (trace driver sink pin) ≡ trace driver sink pin
bare-trace driver sink pin =
    bare-same (trace driver sink pin) (
      refl,
      (
        refl,
        all_joined (λ e. elem_without_line e ≡ e) (cells driver sink)
            (elem_at Ipin sink Pin pin ∷ elem_at SinkKind sink Class INPUT_CLASS ∷ [])
            (cells-all (λ e. elem_without_line e ≡ e) driver sink (λ x y. refl) (λ x y. refl))
            (refl, (refl, tt)),
      ),
    )

bare-route : (side : ℕ) (sinks : List Sink) →
    without_lines (route_to side sinks) ≡ route_to side sinks
bare-route side sinks =
    ap (λ (nets : List RouteNet). record {
      grid = square_of side;
      grid_line = 0;
      lines = 0;
      nets = nets;
    }) (map-map net_without_lines (route_net side) (enumerate_from 0 sinks)
    ∙ map-alike (λ n. net_without_lines (route_net side n)) (route_net side)
    (enumerate_from 0 sinks) (λ n.
    let same = bare-trace (location_of side n.0) (location_of side n.1.block) n.1.pin in
    λ i. record {
      k = n.0;
      name = net_name n.0;
      global = false;
      line = 0;
      elems = same i;
      kept = [];
    }))

module _ (side : ℕ) (some : 1 ≤ side) (sinks : List Sink) (netlist : Netlist) (route : RouteText)
    (blocks : HasBlocks side netlist) (nets : HasNets sinks netlist)
    (few : length sinks ≤ 10000) (within : length sinks ≤ side * side) (taken : AreTaken sinks)
    (inputs : All (IsInput side) sinks) (lines : SameButLines route (route_to side sinks)) where
  abbrev p : RoutingProblem
  p = problem side sinks netlist route blocks nets few

  same : without_lines route ≡ route_to side sinks
  same = lines ∙ bare-route side sinks

  grid_is : route.grid ≡ square_of side
  grid_is = ap (λ (r : RouteText). r.grid) same

  -- the lines of a net
  net-clean : (s : List RouteNet × RouteNet × List RouteNet) →
      In (splits (route_nets side sinks)) s → (line : RouteLine) → In (net_lines s.0 s.1) line →
      IsClean (device side) (problem_context p line)
  net-clean s i line j =
      let t = net-there side sinks s i in
      subst (λ (n : RouteNet). In (net_lines s.0 n) line →
      IsClean (device side) (problem_context p line)) (sym t.is) (λ k. elim k [
        | inl first ↦ subst (λ (l : RouteLine). IsClean (device side) (problem_context p l)) first
            (head-clean side some sinks netlist route blocks nets few within taken inputs t.number
            t.sink t.there s.0 t.earlier)
        | inr later ↦
            let r = from_In-map (λ (u : List Elem × Elem × List Elem). record {
              earlier = s.0;
              net = route_net side (t.number, t.sink);
              before = u.0;
              elem = Some u.1;
              after = u.2;
            }) (splits (route_net side (t.number, t.sink)).elems) line later in
            subst (λ (l : RouteLine). IsClean (device side) (problem_context p l)) r.2
            (elem-clean side some sinks netlist route blocks nets few within taken inputs t.number
            t.sink t.there s.0 t.earlier r.0 r.1)
      ]) j

  -- any line
  each-clean : (line : RouteLine) → In (route_lines route) line →
      IsClean (device_of p) (problem_context p line)
  each-clean line i =
      let bare = subst (λ (r : RouteText). In (route_lines r) (bare_line line)) same
      (bare-lines route line i) in
      let r = from_In-flat_map (λ (s : List RouteNet × RouteNet × List RouteNet).
      net_lines s.0 s.1) (splits (route_nets side sinks)) (bare_line line) bare in
      line-clean p line (subst (λ (g : Size). IsClean
      (record { arch = architecture_of_all; grid = g }) (problem_context p (bare_line line)))
      (sym grid_is) (net-clean r.0 r.1 (bare_line line) r.2))

  -- the array line
  array-clean : array_fault p ≡ None
  array-clean = grind (arith, eq-eqb, square_of, grid_is)

  -- each net has its line
  has-line : (net : ℕ) → net < length sinks → has_net route.nets (net_name net) ≡ true
  has-line net below =
      let none : Sink = record { block = 0; pin = 0 } in
      let sink = get_or sinks net none in
      let test = λ (n : RouteNet). bytes_eq n.name (net_name net) in
      sym (any-changed test net_without_lines route.nets)
      ∙ ap (λ (r : RouteText). has_net r.nets (net_name net)) same
      ∙ list_any-from_In test (route_nets side sinks) (route_net side (net, sink))
      (In-map (route_net side) (enumerate_from 0 sinks) (net, sink)
      (subst (λ (n : ℕ). In (enumerate_from 0 sinks) (n, sink)) (zero-add net)
      (In-enumerate 0 sinks net none below))) (net-same net)

  end-clean : end_fault p ≡ None
  end-clean = grind (arith, list_any_none, all-from_In, In-all, has-line)

  pub values-fit : FitsButForSlots p
  values-fit = all-from_In IsForSlots (problem_faults p) (λ fault i. elim i [
    | inl first ↦ subst IsForSlots first (inl array-clean)
    | inr more ↦ elim (In-append_cases (map (net_line_fault p) (route_lines route))
        (end_fault p ∷ []) fault more) [
          | inl line ↦
              let r = from_In-map (net_line_fault p) (route_lines route) fault line in
              subst IsForSlots r.2 (clean-fault p r.0 (each-clean r.0 r.1))
          | inr last ↦ elim last [
            | inl end ↦ subst IsForSlots end (inl end-clean)
            | inr none ↦ absurd none
          ]
        ]
  ])

-- the texts that a seed gives read as four values
pub texts-read : (seed side nets : ℕ) → 1 ≤ side → side ≤ SIDE_LIMIT → nets ≤ side * side →
    (p : RoutingProblem) × AreRead (generated seed side nets) p
texts-read seed side nets some limit few =
    let netlist = netlist_of_all seed side nets in
    let back = route-reads seed side nets some limit few in (
      problem_of architecture_of_all netlist (placement_of side) back.0,
      record {
        faultless = refl;
        arch = refl;
        netlist = netlist-reads seed side nets some limit few;
        placement = placement-reads architecture_of_all netlist side some limit
            (netlist-blocks seed side nets);
        route = back.1;
      },
    )

-- and whatever they read as fits
pub texts-fit : (seed side nets : ℕ) (p : RoutingProblem) → 1 ≤ side → side ≤ SIDE_LIMIT →
    nets ≤ side * side → AreRead (generated seed side nets) p → FitsButForSlots p
texts-fit seed side nets p some limit few read =
    let sinks = sinks_of seed side nets in
    let most = square side SIDE_LIMIT limit in
    let count = drawing-length seed side nets in
    let arch : p.arch ≡ architecture_of_all = read.arch in
    let netlist : p.netlist ≡ netlist_of_all seed side nets = grind (arith, netlist-reads) in
    let has = netlist-blocks seed side nets in
    let placement : p.placement ≡ placement_of side = read.placement.1
    ∙ ap (λ (n : Netlist). place_value n (generated_placement side)) netlist
    ∙ sym (placement-reads architecture_of_all (netlist_of_all seed side nets) side some limit
    has).1 in
    let back = route-reads seed side nets some limit few in
    let route : back.0 ≡ p.route = back.1.1 ∙ sym read.route.1 in
    subst FitsButForSlots (λ i. problem_of (sym arch i) (sym netlist i) (sym placement i) p.route)
    (values-fit side some sinks (netlist_of_all seed side nets) p.route has
    (netlist-nets seed side nets some limit few) (omega arith) (omega arith)
    (sinks-taken seed side nets some few) (sinks-inputs seed side nets some few)
    (subst (λ (r : RouteText). SameButLines r (route_to side sinks)) route back.2))

-- so no other fault is the first
first-only : (faults : List (Option TextFault)) → All IsForSlots faults →
    IsForSlots (first_fault faults)
first-only [] all = inl refl
first-only (fault ∷ more) all =
    let later = first-only more (All-tail IsForSlots fault more all) in
    let here : IsForSlots fault = all 0 fault (omega arith) in
    elim here [
      | inl none ↦ subst (λ (o : Option TextFault). IsForSlots (option_or o (first_fault more)))
          (sym none) later
      | inr past ↦ subst (λ (o : Option TextFault). IsForSlots (option_or o (first_fault more)))
          (sym past) (inr refl)
    ]

pub first-fits : (seed side nets : ℕ) (p : RoutingProblem) → 1 ≤ side → side ≤ SIDE_LIMIT →
    nets ≤ side * side → AreRead (generated seed side nets) p →
    IsForSlots (first_fault (problem_faults p))
first-fits seed side nets p some limit few read = search (rules, first-only, texts-fit)

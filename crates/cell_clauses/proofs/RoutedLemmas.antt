-- What the nets of a window use, and by which pins they come to their sinks, in a placed routing.
use Rattle.std.proofs.Common.{◌≡◌, ◌≢◌, ◌⊎◌, ℕ, suc, ◌+◌, ◌<◌, ◌≤◌, Bool, true, false, List, [], ◌∷◌, Option, None, Some, length, refl, sym, ap, ◌∙◌, subst, inl, inr, arith, All, AllPairs}
use Rattle.std.specs.Prelude.{◌==◌, ◌&&◌, ◌||◌, Contains, filter, flat_map, if◌then◌else◌, is_some, map, option_and_then, slice_get, zip}
use Rattle.std.specs.List.{enumerate_from, list_any, range_with_len}
use Rattle.std.specs.Option.{option_map_or}
use Rattle.std.proofs.lemmas.Bool.{cases_lt, false≢true}
use Rattle.std.proofs.lemmas.Bool.Decides.{Decides-eqb}
use Rattle.std.proofs.lemmas.List.{length-map}
use Rattle.std.proofs.lemmas.List.FromFn.{get_or-range_with_len, length-range_with_len}
use Rattle.std.proofs.lemmas.List.Kept.{AllPairs-filter}
use Rattle.std.proofs.lemmas.Option.{slice_get_within}
use Rattle.list_laws.proofs.Members.{In, In-all, In-append_right, In-contains, In-filter, In-list_any, In-map, In-range, all-from_In, contains-In, from_In-filter, from_In-filter_map, from_In-flat_map, from_In-map, list_any-from_In}
use Rattle.list_laws.proofs.Numbered.{from_In-enumerate}
use Rattle.list_laws.proofs.Places.{In-place, get-In}
use Rattle.fpga_types.specs.CellNumbers.{all_cells}
use Rattle.fpga_types.specs.Fabric.{Meets, meeting, same_cell}
use Rattle.fpga_types.specs.Placed.{AreInTurn, IsNetRouted, IsPlacedRouting, IsWay, IsWire, NetWires, Way, is_ordinary_net, is_terminal_pin, last_wire, net_pins, pins_in, pins_out, way_wires}
use Rattle.fpga_types.specs.Problem.{PlacedNetlist}
use Rattle.fpga_types.specs.Size.{Size}
use Rattle.fpga_types.specs.Terminals.{driver_in, same_terminal, sinks_in}
use Rattle.fpga_types.specs.Touching.{Touches, touches}
use Rattle.fpga_types.specs.Tracks.{AreJoined, TrackMap, mapped_track}
use Rattle.fpga_types.specs.declared.arch.Arch.{Arch}
use Rattle.fpga_types.specs.declared.grid.Cell.{Cell}
use Rattle.fpga_types.specs.declared.grid.PinAt.{PinAt}
use Rattle.fpga_types.specs.declared.grid.Wire.{Wire}
use Rattle.fpga_types.specs.declared.netlist.Net.{Net}
use Rattle.fpga_types.specs.declared.problem.Terminal.{Terminal}
use Rattle.fpga_types.proofs.BoxLemmas.{touches-is}
use Rattle.fpga_types.proofs.MeetingLemmas.{both_true, meeting-found, same_cell-is, same_cell-itself}
use Rattle.route_bound.specs.Corners.{Corners, has_corner_in, has_corner_out}
use Rattle.route_bound.specs.Lying.{Cells, cells_in, pins_at}
use Rattle.route_bound.proofs.CornerLemmas.{stays-in}
use Rattle.route_bound.specs.Walks.{AreParted, IsParted}
use Rattle.route_bound.proofs.CrossLemmas.{cell-there, few-parted}
use Rattle.route_bound.proofs.InsideLemmas.{lies-in}
use Rattle.route_bound.proofs.PartLemmas.{parts-within}
use Rattle.route_bound.proofs.PigeonLemmas.{no-more}
use Rattle.sat_clause.specs.Formula.{IsTrueClause}
use Rattle.sat_clause.specs.Literal.{Clause}
use Rattle.cell_clauses.specs.Clauses.{below, cell_clauses, is_reached, is_within, meets}
use Rattle.cell_clauses.specs.Demands.{demands}
use Rattle.cell_clauses.specs.Frames.{Frame, arrivals_of, driven_net, frame_of, held_net, held_nets, is_held, ordinary_net, sinks_of_number, window_arrivals}
use Rattle.cell_clauses.specs.Models.{DemandsOther, FewNetsHeld, PartsAreModels, RefutedHasNoRouting, RoutingsAreModels}
use Rattle.cell_clauses.specs.Parts.{IsPlacedRoutingOf}
use Rattle.cell_clauses.specs.Places.{pin_number, variable_count}
use Rattle.cell_clauses.specs.declared.window.Arrival.{Arrival}
use Rattle.cell_clauses.specs.declared.window.WindowNet.{WindowNet}
use Rattle.cell_clauses.proofs.ClauseLemmas.{AreFacts, Serves, UsesSome, each-serves}
use Rattle.cell_clauses.proofs.PinLemmas.{number-low, one-terminal, pin-there, same-pin, there-pin}
use Rattle.cell_clauses.proofs.RowLemmas.{AreAligned, AreApart, IsRising, aligned-at, aligned-both, aligned-maps, apart-any, apart-at, apart-both, apart-map, made-rising, partner-of, place-at, rising-at, rising-differ, some-of}
use Rattle.cell_clauses.proofs.ValueLemmas.{length-values, tally, values}

-- ---- the nets of a window

-- a net of which a set of cells holds a terminal is an ordinary one, and has a driver and a sink, one
-- of which the set holds
pub record IsDriven (placed : PlacedNetlist) (cells : Cells) (net : WindowNet) : Type 0 where
  pub found : Net
  pub is_net : slice_get placed.netlist.nets net.number ≡ Some found
  pub ordinary : found.global ≡ false
  pub is_driver : driver_in placed found ≡ Some net.driver
  pub sink : Terminal
  pub is_sink : In (sinks_in placed found) sink
  pub held : (is_held placed cells net.driver || is_held placed cells sink) ≡ true

module _ (placed : PlacedNetlist) (cells : Cells) where
  driven : (number : ℕ) (n : Net) (driver : Terminal) (net : WindowNet)
      → slice_get placed.netlist.nets number ≡ Some n → n.global ≡ false
      → driver_in placed n ≡ Some driver
      → driven_net placed cells number n driver ≡ Some net
      → IsDriven placed cells net × (net.number ≡ number)
  driven number n driver net e g d h =
      go (list_any (λ at. is_held placed cells driver || is_held placed cells at)
      (sinks_in placed n)) refl h
    where
      go : (t : Bool)
          → list_any (λ at. is_held placed cells driver || is_held placed cells at)
          (sinks_in placed n) ≡ t
          → (if t then Some (record { number = number; driver = driver }) else None) ≡ Some net
          → IsDriven placed cells net × (net.number ≡ number)
      go false f k = absurd (let no : None ≡ Some net = k in cc)
      go true f k =
          let same : record { number = number; driver = driver } ≡ net = cc in
          let some = In-list_any
          (λ at. is_held placed cells driver || is_held placed cells at)
          (sinks_in placed n) f in
          let is : IsDriven placed cells (record { number = number; driver = driver }) = record {
            found = n;
            is_net = e;
            ordinary = g;
            is_driver = d;
            sink = some.0;
            is_sink = some.1;
            held = some.2;
          } in
          (subst (IsDriven placed cells) same is, ap (λ (w : WindowNet). w.number) (sym same))

  ordinary : (number : ℕ) (n : Net) (net : WindowNet)
      → slice_get placed.netlist.nets number ≡ Some n
      → ordinary_net placed cells number n ≡ Some net
      → IsDriven placed cells net × (net.number ≡ number)
  ordinary number n net e h = go n.global refl h
    where
      with-driver : (o : Option Terminal) → n.global ≡ false → driver_in placed n ≡ o
          → option_and_then (driven_net placed cells number n) o ≡ Some net
          → IsDriven placed cells net × (net.number ≡ number)
      with-driver None g d k = absurd (let no : None ≡ Some net = k in cc)
      with-driver (Some driver) g d k = driven number n driver net e g d k

      go : (t : Bool) → n.global ≡ t
          → (if t then None
          else option_and_then (driven_net placed cells number n) (driver_in placed n))
          ≡ Some net
          → IsDriven placed cells net × (net.number ≡ number)
      go true g k = absurd (let no : None ≡ Some net = k in cc)
      go false g k = with-driver (driver_in placed n) g refl k

  made : (number : ℕ) (net : WindowNet) → held_net placed cells number ≡ Some net
      → IsDriven placed cells net × (net.number ≡ number)
  made number net h = go (slice_get placed.netlist.nets number) refl h
    where
      go : (o : Option Net) → slice_get placed.netlist.nets number ≡ o
          → option_and_then (ordinary_net placed cells number) o ≡ Some net
          → IsDriven placed cells net × (net.number ≡ number)
      go None e k = absurd (let no : None ≡ Some net = k in cc)
      go (Some n) e k = ordinary number n net e k

  abbrev all_numbers : List ℕ
  all_numbers = range_with_len 0 (length placed.netlist.nets)

  net-driven : (net : WindowNet) → In (held_nets placed cells) net → IsDriven placed cells net
  net-driven net i =
      let from = from_In-filter_map (held_net placed cells) all_numbers net i in
      (made from.0 net from.2).0

  nets-rise : IsRising (λ (net : WindowNet). net.number) (held_nets placed cells)
  nets-rise = made-rising (λ (net : WindowNet). net.number) (held_net placed cells)
      (λ n net e. (made n net e).1) 0 (length placed.netlist.nets)

-- ---- few nets have a terminal that a set of cells holds

module _ (placed : PlacedNetlist) (cells : Cells) where
  abbrev number_of : WindowNet → ℕ
  number_of net = net.number

  net-parted : (net : WindowNet) → IsDriven placed cells net → IsParted placed cells net.number
  net-parted net is = record {
    net = is.found;
    is_net = is.is_net;
    ordinary = is.ordinary;
    driver = net.driver;
    is_driver = is.is_driver;
    sink = is.sink;
    is_sink = contains-In (sinks_in placed is.found) is.sink is.is_sink;
    parted = go (is_held placed cells net.driver) refl is.held;
  }
    where
      within : (a b : Terminal) → (is_held placed cells a ≡ true → AreParted placed.arch
          placed.placement.grid cells a b)
          × (is_held placed cells b ≡ true → AreParted placed.arch placed.placement.grid cells a b)
      within a b = (
        (λ h. (parts-within placed.arch placed.placement.grid cells a b).0
            (lies-in placed.arch a placed.placement.grid cells h)),
        (λ h. (parts-within placed.arch placed.placement.grid cells a b).1
            (lies-in placed.arch b placed.placement.grid cells h)),
      )

      go : (t : Bool) → is_held placed cells net.driver ≡ t
          → (t || is_held placed cells is.sink) ≡ true
          → AreParted placed.arch placed.placement.grid cells net.driver is.sink
      go true e h = (within net.driver is.sink).0 e
      go false e h = (within net.driver is.sink).1 h

  pub few-held : (width : ℕ) → FewNetsHeld placed cells width
  few-held width = λ has routing.
      let nets = held_nets placed cells in
      let few = few-parted placed cells width has routing (map number_of nets)
      (rising-differ number_of nets (nets-rise placed cells))
      (all-from_In (IsParted placed cells) (map number_of nets)
      (λ number i.
      let from = from_In-map number_of nets number i in
      subst (IsParted placed cells) from.2
      (net-parted from.0 (net-driven placed cells from.0 from.1)))) in
      let count = length-map nets number_of in
      omega (arith, few, count)

-- ---- ways

-- a wire of a way is its first, or another of them is joined to it
before : (table : TrackMap) (grid : Size) (u : Wire) (vs : List Wire) (w : Wire)
    → AreInTurn (AreJoined table grid) u vs → In (u ∷ vs) w
    → (u ≡ w) ⊎ ((p : Wire) × In (u ∷ vs) p × AreJoined table grid p w)
before table grid u [] w turn i = elim i [ inl e ↦ inl e | inr t ↦ absurd t ]
before table grid u (v ∷ vs) w turn i = elim i [
  | inl e ↦ inl e
  | inr t ↦ (elim (before table grid v vs w turn.1 t) [
    | inl e ↦ inr (u, inl refl, subst (λ (x : Wire). AreJoined table grid u x) e turn.0)
    | inr r ↦ inr (r.0, inr r.1, r.2)
  ])
]

last-in : (u : Wire) (vs : List Wire) → In (u ∷ vs) (last_wire u vs)
last-in u [] = inl refl
last-in u (v ∷ vs) = inr (last-in v vs)

turned : (grid : Size) (a b : Cell) → Meets grid a b → Meets grid b a
turned grid a b m = (
  record { at = m.0.at; from = m.0.to; to = m.0.from },
  record {
    column = m.1.column;
    row = m.1.row;
    sides = λ e. m.1.sides (sym e);
    first = m.1.second;
    second = m.1.first;
  },
)

meets-found : (grid : Size) (a b : Cell) → Meets grid a b → is_some (meeting grid a b) ≡ true
meets-found grid a b m = rw (meeting-found grid a b m.0 m.1) refl

-- ---- routings of some nets

-- the ordinary nets that pass a test, by number, are routed, and no two of them share a wire or a pin
pub record IsPartRouted (placed : PlacedNetlist) (mine : ℕ → Bool) (tracks : ℕ)
    (routes : ℕ → NetWires) : Type 0 where
  pub routed : (number : ℕ) (net : Net) → mine number ≡ true
      → slice_get placed.netlist.nets number ≡ Some net → net.global ≡ false
      → IsNetRouted placed tracks net (routes number)
  pub wires : (a b : ℕ) → a ≢ b → mine a ≡ true → mine b ≡ true
      → is_ordinary_net placed a ≡ true → is_ordinary_net placed b ≡ true → (wire : Wire)
      → Contains (routes a).wires wire → Contains (routes b).wires wire → ⊥
  pub pins : (a b : ℕ) → a ≢ b → mine a ≡ true → mine b ≡ true
      → is_ordinary_net placed a ≡ true → is_ordinary_net placed b ≡ true → (pin : PinAt)
      → Contains (net_pins (routes a)) pin → Contains (net_pins (routes b)) pin → ⊥

-- two ways, where there are such, come to different pins
abbrev pub EnterApart : Option Way → Option Way → Type 0
EnterApart o u = (v w : Way) → o ≡ Some v → u ≡ Some w → v.enters ≢ w.enters

-- the number is one of these
abbrev is_number_in : List ℕ → ℕ → Bool
is_number_in numbers n = list_any (λ m. m == n) numbers

number-in : (numbers : List ℕ) (n : ℕ) → is_number_in numbers n ≡ true → Contains numbers n
number-in numbers n h =
    let some = In-list_any (λ m. m == n) numbers h in
    contains-In numbers n (subst (In numbers) ((Decides-eqb some.0 n).0 some.2) some.1)

in-number : (numbers : List ℕ) (n : ℕ) → Contains numbers n → is_number_in numbers n ≡ true
in-number numbers n among =
    list_any-from_In (λ m. m == n) numbers n (In-contains numbers n among)
    ((Decides-eqb n n).1 refl)

module _ (placed : PlacedNetlist) (corners : Corners) (width tracks : ℕ)
    (mine : ℕ → Bool) (routes : ℕ → NetWires) (few : tracks ≤ width)
    (routing : IsPartRouted placed mine tracks routes) where
  abbrev frame : Frame
  frame = frame_of placed corners width

  abbrev inside : Cells
  inside = has_corner_in corners

  abbrev arch : Arch
  arch = placed.arch

  abbrev grid : Size
  grid = placed.placement.grid

  abbrev nets : List WindowNet
  nets = held_nets placed inside

  abbrev array_cells : List Cell
  array_cells = cells_in grid (has_corner_in corners)

  abbrev ways_of : WindowNet → List Way
  ways_of net = (routes net.number).ways

  -- the way has a wire in the cell; and so has one of the ways of a net that is routed
  abbrev passes : Cell → Way → Bool
  passes cell way = list_any (λ (w : Wire). same_cell w.cell cell) (way_wires way)

  abbrev is_used : WindowNet → Cell → Bool
  is_used net cell = mine net.number && list_any (passes cell) (ways_of net)

  abbrev uses : ℕ → ℕ → Bool
  uses k c = option_map_or
      (λ (net : WindowNet). option_map_or (is_used net) (slice_get array_cells c) false)
      (slice_get nets k) false

  -- the net at this place is one that is routed
  abbrev is_mine : (k : ℕ) → Bool
  is_mine k = option_map_or (λ (net : WindowNet). mine net.number) (slice_get nets k) false

  -- a way for each sink, if the net is routed
  abbrev maybe_ways : WindowNet → List (Option Way)
  maybe_ways net = if mine net.number then map (λ (way : Way). Some way) (ways_of net)
      else map (λ (at : Terminal). None) (sinks_of_number placed net.number)

  abbrev all_ways : List (Option Way)
  all_ways = flat_map maybe_ways nets

  abbrev is_by : (number : ℕ) → Option Way → Bool
  is_by number o = option_map_or (λ (way : Way). pin_number way.enters == number) o false

  abbrev entry : ℕ → ℕ → Bool
  entry a number = option_map_or (is_by number) (slice_get all_ways a) false

  -- ---- one net
  is-ordinary : (net : WindowNet) → IsDriven placed inside net
      → is_ordinary_net placed net.number ≡ true
  is-ordinary net is = rw (is.is_net, is.ordinary) refl

  -- the net's sinks by its number
  sinks-are : (net : WindowNet) (is : IsDriven placed inside net)
      → sinks_of_number placed net.number ≡ sinks_in placed is.found
  sinks-are net is = rw is.is_net refl

  -- a net that is routed
  module _ (net : WindowNet) (is : IsDriven placed inside net) (own : mine net.number ≡ true) where
    routed : IsNetRouted placed tracks is.found (routes net.number)
    routed = routing.routed net.number is.found own is.is_net is.ordinary

    goes : (at : Terminal) (way : Way) → In (zip (sinks_in placed is.found) (ways_of net)) (at, way)
        → IsWay placed tracks net.driver at way
    goes at way i =
        let own = In-all (λ (at : Terminal × Way). (driver : Terminal)
        × (driver_in placed is.found ≡ Some driver) × IsWay placed tracks driver at.0 at.1)
        (zip (sinks_in placed is.found) (ways_of net)) (at, way) routed.ways i in
        let same : own.0 ≡ net.driver =
        (let e : Some own.0 ≡ Some net.driver = sym own.1 ∙ is.is_driver in cc) in
        subst (λ (t : Terminal). IsWay placed tracks t at way) same own.2

    way-goes : (way : Way) → In (ways_of net) way
        → (at : Terminal) × IsWay placed tracks net.driver at way
    way-goes way i =
        let with = partner-of (sinks_in placed is.found) (ways_of net) way routed.each i in
        (with.0, goes with.0 way with.1)

    own-wire : (way : Way) (w : Wire) → In (ways_of net) way → In (way_wires way) w
        → Contains (routes net.number).wires w
    own-wire way w i j =
        In-all (Contains (routes net.number).wires) (way_wires way) w
        (In-all (λ (way : Way). All (Contains (routes net.number).wires) (way_wires way))
        (ways_of net) way routed.own i) j

    wire-there : (way : Way) (w : Wire) → In (ways_of net) way → In (way_wires way) w
        → IsWire grid tracks w
    wire-there way w i j =
        In-all (IsWire grid tracks) (routes net.number).wires w routed.there
        (In-contains (routes net.number).wires w (own-wire way w i j))

    -- a wire of a way lies in a cell that the net uses; here it is one of the window
    uses-there : (k : ℕ) → slice_get nets k ≡ Some net → (way : Way) (w : Wire)
        → In (ways_of net) way → In (way_wires way) w → has_corner_in corners w.cell ≡ true
        → (set : Cells) → set w.cell ≡ true → UsesSome frame uses entry k set
    uses-there k at way w i j in-window set of =
        let there = (wire-there way w i j).there in
        let place = In-place array_cells w.cell
        (In-filter (has_corner_in corners) (all_cells grid) w.cell
        (cell-there grid w.cell.axis w.cell.x w.cell.y there) in-window) in
        let pass = list_any-from_In (λ (u : Wire). same_cell u.cell w.cell) (way_wires way) w j
        (same_cell-itself w.cell) in
        let one = list_any-from_In (passes w.cell) (ways_of net) way i pass in
        record {
          cell = place.0;
          there = slice_get_within array_cells place.0 w.cell place.1;
          of = rw place.1 of;
          used = rw (at, place.1, own) one;
        }

    touched-inside : (at : Terminal) → is_within frame at ≡ true → (pin : PinAt) (cell : Cell)
        → is_terminal_pin arch at pin ≡ true → Touches arch grid pin cell
        → has_corner_in corners cell ≡ true
    touched-inside at within pin cell of touching =
        lies-in arch at grid (has_corner_in corners) within pin cell of touching

    touches-true : (pin : PinAt) (cell : Cell) → Touches arch grid pin cell
        → touches arch grid pin cell ≡ true
    touches-true pin cell t = (touches-is arch grid pin cell).1 t

    reached-true : (at : Terminal) (pin : PinAt) (cell : Cell)
        → is_terminal_pin arch at pin ≡ true → Touches arch grid pin cell
        → is_reached frame at cell ≡ true
    reached-true at pin cell of t =
        list_any-from_In (λ p. touches arch grid p cell) (pins_at arch at) pin
        (pin-there arch at pin of) (touches-true pin cell t)

    leaves : (k : ℕ) → slice_get nets k ≡ Some net → is_within frame net.driver ≡ true
        → UsesSome frame uses entry k (is_reached frame net.driver)
    leaves k at within =
        let some = some-of (sinks_in placed is.found) (ways_of net) is.sink routed.each is.is_sink
        in
        let way : Way = some.0 in
        let go = way-goes way some.1 in
        uses-there k at way way.first some.1 (inl refl)
        (touched-inside net.driver within way.leaves way.first.cell go.1.leaves go.1.starts.touches)
        (is_reached frame net.driver)
        (reached-true net.driver way.leaves way.first.cell go.1.leaves go.1.starts.touches)

    -- a cell that the net uses holds a wire of a way
    record HasWire (cell : Cell) : Type 0 where
      pub way : Way
      pub is_way : In (ways_of net) way
      pub wire : Wire
      pub is_wire : In (way_wires way) wire
      pub here : wire.cell ≡ cell

    has-wire : (cell : Cell) → is_used net cell ≡ true → HasWire cell
    has-wire cell h =
        let passed = (both_true (mine net.number) (list_any (passes cell) (ways_of net)) h).1 in
        let way = In-list_any (passes cell) (ways_of net) passed in
        let wire = In-list_any (λ (w : Wire). same_cell w.cell cell) (way_wires way.0) way.2 in
        record {
          way = way.0;
          is_way = way.1;
          wire = wire.0;
          is_wire = wire.1;
          here = same_cell-is wire.0.cell cell wire.2;
        }

    held : (k : ℕ) → slice_get nets k ≡ Some net → (cell : Cell)
        → has_corner_out corners cell ≡ false → is_reached frame net.driver cell ≡ false
        → is_used net cell ≡ true → UsesSome frame uses entry k (meets frame cell)
    held k at cell whole off h =
        let has = has-wire cell h in
        let go = way-goes has.way has.is_way in
        let table = mapped_track arch.pattern tracks in
        elim (before table grid has.way.first has.way.rest has.wire go.1.joined has.is_wire) [
          | inl e ↦
              (let at-first : has.way.first.cell ≡ cell =
              ap (λ (w : Wire). w.cell) e ∙ has.here in
              let on = reached-true net.driver has.way.leaves has.way.first.cell go.1.leaves
              go.1.starts.touches in
              absurd (false≢true (sym off ∙ ap (is_reached frame net.driver) (sym at-first) ∙ on)))
          | inr r ↦
              (let there : Meets grid r.0.cell has.wire.cell = (r.2.0, r.2.1) in
              let back : Meets grid cell r.0.cell =
              turned grid r.0.cell cell
              (subst (λ (c : Cell). Meets grid r.0.cell c) has.here there) in
              uses-there k at has.way r.0 has.is_way r.1
              (stays-in corners grid cell r.0.cell back whole)
              (meets frame cell) (meets-found grid cell r.0.cell back))
        ]

  -- ---- how many nets use a cell

  nets-at : (k : ℕ) (net : WindowNet) → slice_get nets k ≡ Some net → IsDriven placed inside net
  nets-at k net e = net-driven placed inside net (get-In nets k net e)

  -- a net that uses a cell is one that is routed
  used-own : (net : WindowNet) (cell : Cell) → is_used net cell ≡ true → mine net.number ≡ true
  used-own net cell h = (both_true (mine net.number) (list_any (passes cell) (ways_of net)) h).0

  -- a net that is counted at the cell, and one of its tracks there
  record HasTrack (c k track : ℕ) : Type 0 where
    pub net : WindowNet
    pub routed : mine net.number ≡ true
    pub at : slice_get nets k ≡ Some net
    pub cell : Cell
    pub is_cell : slice_get array_cells c ≡ Some cell
    pub own : Contains (routes net.number).wires (record { cell = cell; track = track })

  track-of : (c k : ℕ) → uses k c ≡ true → (track : ℕ) × (track < tracks) × HasTrack c k track
  track-of c k h = go (slice_get nets k) refl h
    where
      with-cell : (net : WindowNet) (o : Option Cell) → slice_get nets k ≡ Some net
          → slice_get array_cells c ≡ o → option_map_or (is_used net) o false ≡ true
          → (track : ℕ) × (track < tracks) × HasTrack c k track
      with-cell net None e g f = absurd (false≢true f)
      with-cell net (Some cell) e g f =
          let is = nets-at k net e in
          let own = used-own net cell f in
          let has = has-wire net is own cell f in
          let wire : Wire = has.wire in
          let same : wire ≡ record { cell = cell; track = wire.track } =
          (λ i. record { cell = has.here i; track = wire.track }) in (
            wire.track,
            (wire-there net is own has.way wire has.is_way has.is_wire).within,
            record {
              net = net;
              routed = own;
              at = e;
              cell = cell;
              is_cell = g;
              own = subst (Contains (routes net.number).wires) same
                  (own-wire net is own has.way wire has.is_way has.is_wire);
            },
          )

      go : (o : Option WindowNet) → slice_get nets k ≡ o
          → option_map_or
          (λ (net : WindowNet). option_map_or (is_used net) (slice_get array_cells c) false) o false
          ≡ true
          → (track : ℕ) × (track < tracks) × HasTrack c k track
      go None e f = absurd (false≢true f)
      go (Some net) e f = with-cell net (slice_get array_cells c) e refl f

  one-track : (c i j track : ℕ) → i ≢ j → HasTrack c i track → HasTrack c j track → ⊥
  one-track c i j track d h g =
      let same : h.cell ≡ g.cell =
      (let e : Some h.cell ≡ Some g.cell = sym h.is_cell ∙ g.is_cell in cc) in
      let wire : Wire = record { cell = g.cell; track = track } in
      let first : Contains (routes h.net.number).wires wire =
      subst (λ (c : Cell). Contains (routes h.net.number).wires (record { cell = c; track = track }))
      same h.own in
      let number : WindowNet → ℕ = λ (net : WindowNet). net.number in
      let differ : h.net.number ≢ g.net.number =
      (λ e. elim (cases_lt i j) [
        | inl low ↦
            (let rise = rising-at number nets i j h.net g.net (nets-rise placed inside) low h.at g.at
            in absurd (omega (arith, rise, e)))
        | inr high ↦
            (let below : j < i = (elim (cases_lt j i) [
              | inl low ↦ low
              | inr other ↦ absurd (d (omega (arith, high, other)))
            ]) in
            let rise = rising-at number nets j i g.net h.net (nets-rise placed inside) below g.at h.at
            in absurd (omega (arith, rise, e)))
      ]) in
      routing.wires h.net.number g.net.number differ h.routed g.routed
      (is-ordinary h.net (nets-at i h.net h.at)) (is-ordinary g.net (nets-at j g.net g.at))
      wire first g.own

  numbers-apart : (n : ℕ) → AllPairs (λ a b. a ≢ b) (below n)
  numbers-apart n = λ i j d before low.
      let count = length-range_with_len 0 n in
      let high : j < n = omega (arith, low, count) in
      let first = get_or-range_with_len 0 n i d (omega (arith, before, high)) in
      let second = get_or-range_with_len 0 n j d high in
      λ e. absurd (let same : 0 + i ≡ 0 + j = sym first ∙ e ∙ second in omega (arith, same, before))

  few-use : (k c : ℕ) → tally frame uses entry k c ≤ width
  few-use k c =
      let most = no-more (HasTrack c) (λ i j t d h g. one-track c i j t d h g)
      (filter (λ i. uses i c) (below k)) (below tracks)
      (AllPairs-filter (λ a b. a ≢ b) (λ i. uses i c) (below k) (numbers-apart k))
      (λ i at.
      let t = track-of c i (from_In-filter (λ i. uses i c) (below k) i at).1 in
      (t.0, In-range 0 tracks t.0 (omega arith) (omega (arith, t.1)), t.2)) in
      let count = length-range_with_len 0 tracks in
      omega (arith, most, count, few)

  -- ---- arrivals

  -- the way is one of the arrival's net, and goes to its sink; there is one where the net is routed
  record IsArrivalBy (arrival : Arrival) (o : Option Way) : Type 0 where
    pub net : WindowNet
    pub at : slice_get nets arrival.net ≡ Some net
    pub there : mine net.number ≡ true → (way : Way) × (o ≡ Some way)
    pub own : (way : Way) → o ≡ Some way → mine net.number ≡ true
    pub is_way : (way : Way) → o ≡ Some way → In (ways_of net) way
    pub goes_to : (way : Way) → o ≡ Some way → IsWay placed tracks net.driver arrival.at way

  zip-second : {A B : Type 0} (xs : List A) (ys : List B) (x : A) (y : B) → In (zip xs ys) (x, y)
      → In ys y
  zip-second [] ys x y i = absurd i
  zip-second (a ∷ xs) [] x y i = absurd i
  zip-second {A} {B} (a ∷ xs) (b ∷ ys) x y i = elim i [
    | inl e ↦ inl (ap (λ (p : A × B). p.1) e)
    | inr t ↦ inr (zip-second xs ys x y t)
  ]

  routed-aligned : (k : ℕ) (net : WindowNet) → slice_get nets k ≡ Some net
      → mine net.number ≡ true
      → AreAligned IsArrivalBy (arrivals_of placed (k, net))
      (map (λ (way : Way). Some way) (ways_of net))
  routed-aligned k net e own =
      let is = nets-at k net e in
      subst (λ (sinks : List Terminal).
      AreAligned IsArrivalBy (map (λ at. record { net = k; at = at }) sinks)
      (map (λ (way : Way). Some way) (ways_of net)))
      (sym (sinks-are net is))
      (aligned-maps IsArrivalBy (λ at. record { net = k; at = at }) (λ (way : Way). Some way)
      (sinks_in placed is.found) (ways_of net) (routed net is own).each
      (λ at way i. record {
        net = net;
        at = e;
        there = λ h. (way, refl);
        own = λ w f. own;
        is_way = λ w f.
            let same : way ≡ w = cc in
            subst (In (ways_of net)) same
            (zip-second (sinks_in placed is.found) (ways_of net) at way i);
        goes_to = λ w f.
            let same : way ≡ w = cc in
            subst (IsWay placed tracks net.driver at) same (goes net is own at way i);
      }))

  bare-aligned : (k : ℕ) (net : WindowNet) → slice_get nets k ≡ Some net
      → mine net.number ≡ false
      → AreAligned IsArrivalBy (arrivals_of placed (k, net))
      (map (λ (at : Terminal). None) (sinks_of_number placed net.number))
  bare-aligned k net e other =
      aligned-maps IsArrivalBy (λ at. record { net = k; at = at }) (λ (at : Terminal). None)
      (sinks_of_number placed net.number) (sinks_of_number placed net.number) refl
      (λ at to i. record {
        net = net;
        at = e;
        there = λ h. absurd (false≢true (sym other ∙ h));
        own = λ w f. absurd (let no : None ≡ Some w = f in cc);
        is_way = λ w f. absurd (let no : None ≡ Some w = f in cc);
        goes_to = λ w f. absurd (let no : None ≡ Some w = f in cc);
      })

  net-aligned : (k : ℕ) (net : WindowNet) → slice_get nets k ≡ Some net
      → AreAligned IsArrivalBy (arrivals_of placed (k, net)) (maybe_ways net)
  net-aligned k net e = go (mine net.number) refl
    where
      go : (t : Bool) → mine net.number ≡ t
          → AreAligned IsArrivalBy (arrivals_of placed (k, net))
          (if t then map (λ (way : Way). Some way) (ways_of net)
          else map (λ (at : Terminal). None) (sinks_of_number placed net.number))
      go true h = routed-aligned k net e h
      go false h = bare-aligned k net e h

  nets-aligned : (ns : List WindowNet) (a : ℕ)
      → ((j : ℕ) (net : WindowNet) → slice_get ns j ≡ Some net → slice_get nets (a + j) ≡ Some net)
      → AreAligned IsArrivalBy (flat_map (arrivals_of placed) (enumerate_from a ns))
      (flat_map maybe_ways ns)
  nets-aligned [] a at = tt
  nets-aligned (net ∷ ns) a at =
      aligned-both IsArrivalBy (arrivals_of placed (a, net)) (maybe_ways net)
      (flat_map (arrivals_of placed) (enumerate_from (a + 1) ns)) (flat_map maybe_ways ns)
      (net-aligned a net
      (let e : a + 0 ≡ a = omega arith in
      subst (λ (k : ℕ). slice_get nets k ≡ Some net) e (at 0 net refl)))
      (nets-aligned ns (a + 1) (λ j n f.
      let e : a + suc j ≡ a + 1 + j = omega arith in
      subst (λ (k : ℕ). slice_get nets k ≡ Some n) e (at (suc j) n f)))

  abbrev arrivals : List Arrival
  arrivals = window_arrivals placed nets

  by-way : (a : ℕ) (arrival : Arrival) → slice_get arrivals a ≡ Some arrival
      → (o : Option Way) × (slice_get all_ways a ≡ Some o) × IsArrivalBy arrival o
  by-way a arrival e =
      aligned-at IsArrivalBy arrivals all_ways a arrival
      (nets-aligned nets 0 (λ j net f.
      let same : j ≡ 0 + j = omega arith in
      subst (λ (k : ℕ). slice_get nets k ≡ Some net) same f)) e

  enters : (a : ℕ) (arrival : Arrival) → slice_get arrivals a ≡ Some arrival
      → is_mine arrival.net ≡ true
      → (pin : PinAt) × In (pins_at arch arrival.at) pin × (entry a (pin_number pin) ≡ true)
  enters a arrival e h =
      let by = by-way a arrival e in
      let own : mine by.2.net.number ≡ true = rw by.2.at at h in
      let way = by.2.there own in (
        way.0.enters,
        pin-there arch arrival.at way.0.enters (by.2.goes_to way.0 way.1).enters,
        rw (by.1, way.1) ((Decides-eqb (pin_number way.0.enters) (pin_number way.0.enters)).1 refl),
      )

  -- an arrival that is by a pin with this number is by a way
  entered : (a number : ℕ) (o : Option Way) → slice_get all_ways a ≡ Some o
      → entry a number ≡ true → (way : Way) × (o ≡ Some way) × (pin_number way.enters ≡ number)
  entered a number o e h = go o (let f : is_by number o ≡ true = rw e at h in f)
    where
      go : (o : Option Way) → is_by number o ≡ true
          → (way : Way) × (o ≡ Some way) × (pin_number way.enters ≡ number)
      go None f = absurd (false≢true f)
      go (Some way) f = (way, refl, (Decides-eqb (pin_number way.enters) number).0 f)

  by-pin : (a : ℕ) (arrival : Arrival) → slice_get arrivals a ≡ Some arrival
      → is_within frame arrival.at ≡ true → (pin : PinAt) → In (pins_at arch arrival.at) pin
      → entry a (pin_number pin) ≡ true
      → UsesSome frame uses entry arrival.net (touches arch grid pin)
  by-pin a arrival e within pin i h =
      let by = by-way a arrival e in
      let has = entered a (pin_number pin) by.0 by.1 h in
      let way : Way = has.0 in
      let own = by.2.own way has.1 in
      let is = nets-at arrival.net by.2.net by.2.at in
      let to = by.2.goes_to way has.1 in
      let same : way.enters ≡ pin =
      same-pin arch arrival.at way.enters pin to.enters (there-pin arch arrival.at pin i) has.2 in
      let w : Wire = last_wire way.first way.rest in
      uses-there by.2.net is own arrival.net by.2.at way w (by.2.is_way way has.1)
      (last-in way.first way.rest)
      (touched-inside by.2.net is own arrival.at within way.enters w.cell to.enters to.ends.touches)
      (touches arch grid pin)
      (subst (λ (p : PinAt). touches arch grid p w.cell ≡ true) same
      (touches-true by.2.net is own way.enters w.cell to.ends.touches))

  -- no two ways come to one pin
  enters-pin : (net : WindowNet) (way : Way) → In (ways_of net) way
      → Contains (net_pins (routes net.number)) way.enters
  enters-pin net way i =
      contains-In (net_pins (routes net.number)) way.enters
      (In-append_right (pins_out (routes net.number)) (pins_in (routes net.number)) way.enters
      (In-map (λ (way : Way). way.enters) (ways_of net) way i))

  -- a way of a net that is routed
  way-in : (net : WindowNet) (o : Option Way) (way : Way) → In (maybe_ways net) o → o ≡ Some way
      → (mine net.number ≡ true) × In (ways_of net) way
  way-in net o way i e = go (mine net.number) refl i
    where
      go : (t : Bool) → mine net.number ≡ t
          → In (if t then map (λ (way : Way). Some way) (ways_of net)
          else map (λ (at : Terminal). None) (sinks_of_number placed net.number)) o
          → (mine net.number ≡ true) × In (ways_of net) way
      go true h j =
          let from = from_In-map (λ (way : Way). Some way) (ways_of net) o j in
          let same : from.0 ≡ way = (let f : Some from.0 ≡ Some way = from.2 ∙ e in cc) in
          (h, subst (In (ways_of net)) same from.1)
      go false h j =
          let from = from_In-map (λ (at : Terminal). None) (sinks_of_number placed net.number) o j in
          absurd (let no : None ≡ Some way = from.2 ∙ e in cc)

  own-apart : (net : WindowNet) → IsDriven placed inside net → AreApart EnterApart (maybe_ways net)
  own-apart net is = go (mine net.number) refl
    where
      go : (t : Bool) → mine net.number ≡ t
          → AreApart EnterApart (if t then map (λ (way : Way). Some way) (ways_of net)
          else map (λ (at : Terminal). None) (sinks_of_number placed net.number))
      go true own =
          apart-map EnterApart (λ (way : Way). way.enters) (λ (way : Way). Some way) (ways_of net)
          (routed net is own).pins
          (λ c d differ v w e f.
          let first : c ≡ v = cc in
          let second : d ≡ w = cc in
          λ g. differ (ap (λ (way : Way). way.enters) first ∙ g
          ∙ sym (ap (λ (way : Way). way.enters) second)))
      go false other =
          apart-any EnterApart (λ (at : Terminal). None) (sinks_of_number placed net.number)
          (λ c d v w e f. absurd (let no : None ≡ Some v = e in cc))

  ways-apart : (ns : List WindowNet) → IsRising (λ (net : WindowNet). net.number) ns
      → ((net : WindowNet) → In ns net → IsDriven placed inside net)
      → AreApart EnterApart (flat_map maybe_ways ns)
  ways-apart [] rise driven = tt
  ways-apart (net ∷ ns) rise driven =
      apart-both EnterApart (maybe_ways net) (flat_map maybe_ways ns)
      (own-apart net (driven net (inl refl)))
      (ways-apart ns rise.1 (λ n i. driven n (inr i)))
      (λ x y i j v w e f.
      let of = from_In-flat_map maybe_ways ns y j in
      let low = rise.0 of.0 of.1 in
      let first = way-in net x v i e in
      let second = way-in of.0 y w of.2 f in
      λ g. routing.pins net.number of.0.number (λ h. omega (arith, h, low)) first.0 second.0
      (is-ordinary net (driven net (inl refl)))
      (is-ordinary of.0 (driven of.0 (inr of.1))) w.enters
      (subst (Contains (net_pins (routes net.number))) g (enters-pin net v first.1))
      (enters-pin of.0 w second.1))

  apart : (a b : ℕ) (first second : Arrival) (number : ℕ) → slice_get arrivals a ≡ Some first
      → slice_get arrivals b ≡ Some second → a < b → same_terminal first.at second.at ≡ true
      → entry a number ≡ true → entry b number ≡ true → ⊥
  apart a b first second number e f before same h g =
      let one = by-way a first e in
      let two = by-way b second f in
      let has = entered a number one.0 one.1 h in
      let other = entered b number two.0 two.1 g in
      let at : first.at ≡ second.at = one-terminal first.at second.at same in
      let enters : is_terminal_pin arch second.at has.0.enters ≡ true =
      subst (λ (t : Terminal). is_terminal_pin arch t has.0.enters ≡ true) at
      (one.2.goes_to has.0 has.1).enters
      in
      apart-at EnterApart all_ways a b one.0 two.0
      (ways-apart nets (nets-rise placed inside) (λ net i. net-driven placed inside net i))
      before one.1 two.1 has.0 other.0 has.1 other.1
      (same-pin arch second.at has.0.enters other.0.enters enters
      (two.2.goes_to other.0 other.1).enters (has.2 ∙ sym other.2))

  -- ---- all of it

  placed-at : {A : Type 0} (xs : List A) (z : ℕ × A) → In (enumerate_from 0 xs) z
      → slice_get xs z.0 ≡ Some z.1
  placed-at {A} xs z i =
      let at = from_In-enumerate 0 xs z i in
      let e : at.0 ≡ z.0 = omega (arith, at.1) in
      subst (λ (k : ℕ). slice_get xs k ≡ Some z.1) e at.2

  is-used : (k c : ℕ) (net : WindowNet) (cell : Cell) → slice_get nets k ≡ Some net
      → slice_get array_cells c ≡ Some cell → uses k c ≡ true → is_used net cell ≡ true
  is-used k c net cell e f h = rw (e, f) at h

  facts : AreFacts frame uses entry is_mine
  facts = record {
    nets = λ z i. slice_get_within nets z.0 z.1 (placed-at nets z i);
    cells = λ z i. slice_get_within array_cells z.0 z.1 (placed-at array_cells z i);
    arrivals = λ z i.
        let at = placed-at arrivals z i in
        let by = by-way z.0 z.1 at in
        (slice_get_within arrivals z.0 z.1 at, slice_get_within nets z.1.net by.2.net by.2.at);
    pins = λ z pin i. number-low arch z.1.at pin (there-pin arch z.1.at pin i);
    leaves = λ z i own within.
        let at = placed-at nets z i in
        leaves z.1 (nets-at z.0 z.1 at) (let is : mine z.1.number ≡ true = rw at at own in is) z.0 at
        within;
    enters = λ z i own. enters z.0 z.1 (placed-at arrivals z i) own;
    by = λ z pin i within j h. by-pin z.0 z.1 (placed-at arrivals z i) within pin j h;
    apart = λ y z number i j before same h g.
        apart y.0 z.0 y.1 z.1 number (placed-at arrivals y i) (placed-at arrivals z j) before same h g;
    held = λ y z i j whole off h.
        let at = placed-at nets y i in
        let cell = placed-at array_cells z j in
        let used = is-used y.0 z.0 y.1 z.1 at cell h in
        held y.1 (nets-at y.0 y.1 at) (used-own y.1 z.1 used) y.0 at z.1 whole off used;
    few = λ k c net cell. few-use (k + 1) c;
  }

-- the values, and the clauses that they make true
module _ (placed : PlacedNetlist) (corners : Corners) (width tracks : ℕ) (mine : ℕ → Bool)
    (routes : ℕ → NetWires) (few : tracks ≤ width)
    (routing : IsPartRouted placed mine tracks routes) where
  abbrev shown : Frame
  shown = frame_of placed corners width

  abbrev part_values : List Bool
  part_values = values shown (uses placed corners width tracks mine routes few routing)
      (entry placed corners width tracks mine routes few routing)

  -- the clause demands something of a net that is not routed
  record DemandsUnrouted (clause : Clause) : Type 0 where
    pub place : ℕ
    pub net : WindowNet
    pub is_net : slice_get shown.nets place ≡ Some net
    pub other : mine net.number ≡ false
    pub demanded : demands shown place clause ≡ true

  part-long : length part_values ≡ variable_count shown
  part-long = length-values shown (uses placed corners width tracks mine routes few routing)
      (entry placed corners width tracks mine routes few routing)

  part-each : (clause : Clause) → In (cell_clauses shown) clause
      → IsTrueClause part_values clause ⊎ DemandsUnrouted clause
  part-each clause i =
      let used = uses placed corners width tracks mine routes few routing in
      let by = entry placed corners width tracks mine routes few routing in
      let own = is_mine placed corners width tracks mine routes few routing in
      let known = facts placed corners width tracks mine routes few routing in
      elim (In-all (Serves shown used by own known) (cell_clauses shown) clause
      (each-serves shown used by own known) i) [
        | inl holds ↦ inl holds
        | inr more ↦
            (let at = place-at shown.nets more.place more.there in
            inr (record {
              place = more.place;
              net = at.0;
              is_net = at.1;
              other = rw at.1 at more.other;
              demanded = more.demanded;
            }))
      ]

-- a routing of all nets
whole-part : (placed : PlacedNetlist) (tracks : ℕ) (routes : ℕ → NetWires)
    → IsPlacedRouting placed tracks routes → IsPartRouted placed (λ number. true) tracks routes
whole-part placed tracks routes routing = record {
  routed = λ number net own. routing.routed number net;
  wires = λ a b differ one other. routing.wires a b differ;
  pins = λ a b differ one other. routing.pins a b differ;
}

pub routings-are-models : (placed : PlacedNetlist) (corners : Corners) (width : ℕ)
    → RoutingsAreModels placed corners width
routings-are-models placed corners width = λ tracks routes few routing.
    let f : Frame = frame_of placed corners width in
    let part = whole-part placed tracks routes routing in
    let vs : List Bool = part_values placed corners width tracks (λ number. true) routes few part in (
      vs,
      record {
        one_each = part-long placed corners width tracks (λ number. true) routes few part;
        each_clause = all-from_In (IsTrueClause vs) (cell_clauses f) (λ clause i.
            elim (part-each placed corners width tracks (λ number. true) routes few part clause i) [
              | inl holds ↦ holds
              | inr more ↦ absurd (let no : true ≡ false = more.other in cc)
            ]);
      },
    )

-- a routing of some nets
some-part : (placed : PlacedNetlist) (nets : List ℕ) (tracks : ℕ) (routes : ℕ → NetWires)
    → IsPlacedRoutingOf placed nets tracks routes
    → IsPartRouted placed (is_number_in nets) tracks routes
some-part placed nets tracks routes routing = record {
  routed = λ number net own. routing.routed number net (number-in nets number own);
  wires = λ a b differ one other.
      routing.wires a b differ (number-in nets a one) (number-in nets b other);
  pins = λ a b differ one other.
      routing.pins a b differ (number-in nets a one) (number-in nets b other);
}

pub parts-are-models : (placed : PlacedNetlist) (corners : Corners) (width : ℕ)
    → PartsAreModels placed corners width
parts-are-models placed corners width = λ nets tracks routes few routing.
    let f : Frame = frame_of placed corners width in
    let mine : ℕ → Bool = is_number_in nets in
    let part = some-part placed nets tracks routes routing in
    let vs : List Bool = part_values placed corners width tracks mine routes few part in (
      vs,
      record {
        one_each = part-long placed corners width tracks mine routes few part;
        each_clause = all-from_In (λ clause. IsTrueClause vs clause ⊎ DemandsOther f nets clause)
            (cell_clauses f) (λ clause i.
            elim (part-each placed corners width tracks mine routes few part clause i) [
              | inl holds ↦ inl holds
              | inr more ↦ inr (record {
                place = more.place;
                net = more.net;
                is_net = more.is_net;
                other = λ among.
                    false≢true (sym more.other ∙ in-number nets more.net.number among);
                demanded = more.demanded;
              })
            ]);
      },
    )

pub refuted-has-none : (placed : PlacedNetlist) (corners : Corners) (width : ℕ)
    → RefutedHasNoRouting placed corners width
refuted-has-none placed corners width = λ part among unsat tracks routes few routing.
    let f : Frame = frame_of placed corners width in
    let model = routings-are-models placed corners width tracks routes few routing in
    unsat model.0
    (record {
      one_each = model.1.one_each;
      each_clause = all-from_In (IsTrueClause model.0) part
          (λ clause i. In-all (IsTrueClause model.0) (cell_clauses f) clause model.1.each_clause
          (In-contains (cell_clauses f) clause
          (In-all (Contains (cell_clauses f)) part clause among i)));
    })

-- Nets that a set of cells parts have a wire each in one of them, and so are not many.
use Rattle.std.proofs.Common.{◌≡◌, ◌≢◌, ℕ, ◌+◌, ◌*◌, ◌<◌, ◌≤◌, true, List, [], ◌∷◌, Some, length, refl, sym, ap, ◌∙◌, subst, inl, inr, arith, All, AllPairs}
use Rattle.std.specs.Prelude.{Contains, IsTrue, flat_map, map, zip}
use Rattle.std.specs.List.{range_with_len}
use Rattle.std.proofs.lemmas.List.{length-map}
use Rattle.std.proofs.lemmas.List.FromFn.{length-range_with_len}
use Rattle.list_laws.proofs.Members.{In, In-all, In-append_left, In-append_right, In-contains, In-filter, In-flat_map, In-map, In-range, from_In-map}
use Rattle.list_laws.proofs.Rows.{length-rows}
use Rattle.fpga_types.specs.CellNumbers.{all_cells}
use Rattle.fpga_types.specs.Fabric.{is_channel_place}
use Rattle.fpga_types.specs.Placed.{IsNetRouted, IsPlacedRouting, IsWay, IsWire, NetWires, Way, is_ordinary_net, way_wires}
use Rattle.fpga_types.specs.Problem.{PlacedNetlist}
use Rattle.fpga_types.specs.Size.{Size}
use Rattle.fpga_types.specs.Terminals.{driver_in, sinks_in}
use Rattle.fpga_types.specs.Tracks.{mapped_track}
use Rattle.fpga_types.specs.declared.grid.Axis.{Axis}
use Rattle.fpga_types.specs.declared.grid.Axis.TheVariants.{X, Y}
use Rattle.fpga_types.specs.declared.grid.Cell.{Cell}
use Rattle.fpga_types.specs.declared.grid.Wire.{Wire}
use Rattle.fpga_types.specs.declared.problem.Terminal.{Terminal}
use Rattle.fpga_types.proofs.CellLemmas.{low-x, low-y}
use Rattle.route_bound.specs.Lying.{Cells, cells_in}
use Rattle.route_bound.specs.Walks.{FewNetsParted, IsParted, IsTouched}
use Rattle.route_bound.proofs.PigeonLemmas.{no-more}
use Rattle.route_bound.proofs.WalkLemmas.{cells_of, last-cells, turn-walk}

-- each cell of the array is among them
pub cell-there : (grid : Size) (axis : Axis) (x y : ℕ) → is_channel_place grid axis x y ≡ true
    → In (all_cells grid) (record { axis = axis; x = x; y = y })
cell-there grid X x y h =
    let at = low-x grid x y h in
    In-append_left _ _ _
    (In-flat_map (λ v. map (λ u. record { axis = X; x = u; y = v }) (range_with_len 1 grid.nx))
    (range_with_len 0 (grid.ny + 1)) y _
    (In-range 0 (grid.ny + 1) y (omega arith) (omega (arith, at.2)))
    (In-map (λ u. record { axis = X; x = u; y = y }) (range_with_len 1 grid.nx) x
    (In-range 1 grid.nx x at.0 (omega (arith, at.1)))))
cell-there grid Y x y h =
    let at = low-y grid x y h in
    In-append_right
    (flat_map (λ v. map (λ u. record { axis = X; x = u; y = v }) (range_with_len 1 grid.nx))
    (range_with_len 0 (grid.ny + 1))) _ _
    (In-flat_map
    (λ v. map (λ u. record { axis = Y; x = u; y = v }) (range_with_len 0 (grid.nx + 1)))
    (range_with_len 1 grid.ny) y _ (In-range 1 grid.ny y at.1 (omega (arith, at.2)))
    (In-map (λ u. record { axis = Y; x = u; y = y }) (range_with_len 0 (grid.nx + 1)) x
    (In-range 0 (grid.nx + 1) x (omega arith) (omega (arith, at.0)))))

-- the wires of some cells
abbrev wires_in : (width : ℕ) → List Cell → List Wire
wires_in width cells =
    flat_map (λ cell. map (λ t. record { cell = cell; track = t }) (range_with_len 0 width)) cells

length-wires : (width : ℕ) (cells : List Cell)
    → length (wires_in width cells) ≡ length cells * width
length-wires width cells =
    length-rows (λ cell. map (λ t. record { cell = cell; track = t }) (range_with_len 0 width))
    width cells
    (λ cell. length-map (range_with_len 0 width) (λ t. record { cell = cell; track = t })
    ∙ length-range_with_len 0 width)

wire-in : (width : ℕ) (cells : List Cell) (wire : Wire) → In cells wire.cell
    → wire.track < width → In (wires_in width cells) wire
wire-in width cells wire cell track =
    In-flat_map (λ cell. map (λ t. record { cell = cell; track = t }) (range_with_len 0 width))
    cells wire.cell wire cell
    (In-map (λ t. record { cell = wire.cell; track = t }) (range_with_len 0 width) wire.track
    (In-range 0 width wire.track (omega arith) (omega (arith, track))))

-- an element has its partner
partner : {A B : Type 0} (xs : List A) (ys : List B) (x : A) → length ys ≡ length xs → In xs x
    → (y : B) × In (zip xs ys) (x, y) × In ys y
partner [] ys x e i = absurd i
partner (a ∷ xs) [] x e i = absurd (omega (arith, e))
partner {A} {B} (a ∷ xs) (b ∷ ys) x e i = elim i [
  | inl f ↦ (b, inl (ap (λ (c : A). (c, b)) f), inl refl)
  | inr t ↦ (let r = partner xs ys x (omega (arith, e)) t in (r.0, inr r.1, inr r.2))
]

module _ (placed : PlacedNetlist) (cells : Cells) (width : ℕ) (has : ℕ → NetWires)
    (routing : IsPlacedRouting placed width has) where
  abbrev grid : Size
  grid = placed.placement.grid

  -- the net with this number is an ordinary one, and has the wire
  abbrev Holds : ℕ → Wire → Type 0
  Holds number wire = IsTrue (is_ordinary_net placed number) × Contains (has number).wires wire

  apart : (a b : ℕ) (wire : Wire) → a ≢ b → Holds a wire → Holds b wire → ⊥
  apart a b wire d h g = routing.wires a b d h.0 g.0 wire h.1 g.1

  module _ (number : ℕ) (net : IsParted placed cells number) where
    net-routed : IsNetRouted placed width net.net (has number)
    net-routed = routing.routed number net.net net.is_net net.ordinary

    is-ordinary : is_ordinary_net placed number ≡ true
    is-ordinary = rw (net.is_net, net.ordinary) refl

    -- a wire of a way between two such terminals
    in-cells : (way : Way) → IsWay placed width net.driver net.sink way
        → (w : Wire) × In (way_wires way) w × (cells w.cell ≡ true)
    in-cells way is =
        let same = last-cells way.first way.rest in
        let found = net.parted way.first.cell (cells_of way.rest)
        (record { pin = way.leaves; of = is.leaves; touches = is.starts.touches })
        (turn-walk (mapped_track placed.arch.pattern width) grid way.first way.rest is.joined)
        (subst (λ (c : Cell). IsTouched placed.arch grid net.sink c) (sym same)
        (record { pin = way.enters; of = is.enters; touches = is.ends.touches })) in
        let wire = from_In-map (λ (w : Wire). w.cell) (way_wires way) found.0
        (In-contains (cells_of (way_wires way)) found.0 found.1) in
        (wire.0, wire.1, ap cells wire.2 ∙ found.2)

    has-wire : (w : Wire) × In (wires_in width (cells_in grid cells)) w × Holds number w
    has-wire =
        let sink = In-contains (sinks_in placed net.net) net.sink net.is_sink in
        let at = partner (sinks_in placed net.net) (has number).ways net.sink net-routed.each sink
        in
        let way = In-all (λ (at : Terminal × Way). (driver : Terminal)
        × (driver_in placed net.net ≡ Some driver) × IsWay placed width driver at.0 at.1)
        (zip (sinks_in placed net.net) (has number).ways) (net.sink, at.0)
        net-routed.ways at.1 in
        let same : way.0 ≡ net.driver =
        (let e : Some way.0 ≡ Some net.driver = sym way.1 ∙ net.is_driver in cc) in
        let wire = in-cells at.0
        (subst (λ (t : Terminal). IsWay placed width t net.sink at.0) same way.2) in
        let own = In-all (Contains (has number).wires) (way_wires at.0) wire.0
        (In-all (λ (way : Way). All (Contains (has number).wires) (way_wires way))
        (has number).ways at.0 net-routed.own at.2) wire.1 in
        let there = In-all (IsWire grid width) (has number).wires wire.0 net-routed.there
        (In-contains (has number).wires wire.0 own) in (
          wire.0,
          wire-in width (cells_in grid cells) wire.0
              (In-filter cells (all_cells grid) wire.0.cell
              (cell-there grid wire.0.cell.axis wire.0.cell.x wire.0.cell.y there.there) wire.2)
              there.within,
          (is-ordinary, own),
        )

  few : (numbers : List ℕ) → AllPairs (λ a b. a ≢ b) numbers
      → All (IsParted placed cells) numbers
      → length numbers ≤ width * length (cells_in grid cells)
  few numbers differ all =
      let most = no-more Holds apart numbers (wires_in width (cells_in grid cells)) differ
      (λ number i. has-wire number (In-all (IsParted placed cells) numbers number all i)) in
      let count = length-wires width (cells_in grid cells) in
      omega (arith, most, count)

pub few-parted : (placed : PlacedNetlist) (cells : Cells) (width : ℕ)
    → FewNetsParted placed cells width
few-parted placed cells width = λ has routing numbers differ all.
    few placed cells width has routing numbers differ all

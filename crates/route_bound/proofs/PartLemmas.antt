-- A set of cells parts what lies in it, and the cells of a cut part the nets that cross it.
use Rattle.std.proofs.Common.{ℕ, ◌∷◌, refl, inl, inr}
use Rattle.list_laws.proofs.Members.{In-all, all-from_In, contains-In}
use Rattle.fpga_types.specs.Problem.{PlacedNetlist}
use Rattle.fpga_types.specs.Size.{Size}
use Rattle.fpga_types.specs.declared.arch.Arch.{Arch}
use Rattle.fpga_types.specs.declared.problem.Terminal.{Terminal}
use Rattle.route_bound.specs.Corners.{Corners, is_cut_cell}
use Rattle.route_bound.specs.Crossing.{AreAcross, ArePartedByCut, Crosses, FewNetsCross}
use Rattle.route_bound.specs.Lying.{Cells}
use Rattle.route_bound.specs.Walks.{AreParted, IsParted, PartsWithin, last_cell}
use Rattle.route_bound.proofs.CrossLemmas.{few-parted}
use Rattle.route_bound.proofs.WalkLemmas.{last-there, walk-in, walk-out}

pub parts-within : (arch : Arch) (grid : Size) (cells : Cells) → PartsWithin arch grid cells
parts-within arch grid cells = λ a b. (
  (λ lies first rest from walk to.
      (first, contains-In (first ∷ rest) first (inl refl), lies from.pin first from.of from.touches)),
  (λ lies first rest from walk to. (
    last_cell first rest,
    contains-In (first ∷ rest) (last_cell first rest) (last-there first rest),
    lies to.pin (last_cell first rest) to.of to.touches,
  )),
)

module _ (placed : PlacedNetlist) (corners : Corners) where
  abbrev arch : Arch
  arch = placed.arch

  abbrev grid : Size
  grid = placed.placement.grid

  across-parted : (a b : Terminal) → AreAcross placed corners a b
      → AreParted arch grid (is_cut_cell corners) a b
  across-parted a b across = elim across [
    | inl on ↦ (elim on [
      | inl h ↦ (parts-within arch grid (is_cut_cell corners) a b).0 h
      | inr h ↦ (parts-within arch grid (is_cut_cell corners) a b).1 h
    ])
    | inr sides ↦ (elim sides [
      | inl h ↦
          (λ first rest from walk to.
          let r = walk-out corners grid first rest walk
          (h.0 from.pin first from.of from.touches)
          (h.1 to.pin (last_cell first rest) to.of to.touches) in
          (r.0, contains-In (first ∷ rest) r.0 r.1, r.2))
      | inr h ↦
          (λ first rest from walk to.
          let r = walk-in corners grid first rest walk
          (h.0 from.pin first from.of from.touches)
          (h.1 to.pin (last_cell first rest) to.of to.touches) in
          (r.0, contains-In (first ∷ rest) r.0 r.1, r.2))
    ])
  ]

  pub parted-by-cut : ArePartedByCut placed corners
  parted-by-cut = λ number c. record {
    net = c.net;
    is_net = c.is_net;
    ordinary = c.ordinary;
    driver = c.driver;
    is_driver = c.is_driver;
    sink = c.sink;
    is_sink = c.is_sink;
    parted = across-parted c.driver c.sink c.across;
  }

pub few-cross : (placed : PlacedNetlist) (corners : Corners) (width : ℕ)
    → FewNetsCross placed corners width
few-cross placed corners width = λ has routing numbers differ all.
    few-parted placed (is_cut_cell corners) width has routing numbers differ
    (all-from_In (IsParted placed (is_cut_cell corners)) numbers
    (λ number i. parted-by-cut placed corners number
    (In-all (Crosses placed corners) numbers number all i)))

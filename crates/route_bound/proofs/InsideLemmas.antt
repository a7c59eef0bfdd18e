-- The searches over pins, cells and nets find what they are for.
use Rattle.std.proofs.Common.{◌≡◌, ◌≢◌, ℕ, ◌+◌, ◌-◌, ◌*◌, ◌/◌, ◌<◌, ◌≤◌, ◌⊎◌, Bool, true, false, List, [], ◌∷◌, Option, Some, None, length, refl, sym, ap, ◌∙◌, subst, inl, inr, arith, AllPairs}
use Rattle.std.specs.Prelude.{◌==◌, ◌&&◌, ◌||◌, map, not, slice_get}
use Rattle.std.specs.List.{list_all, list_any, range_with_len}
use Rattle.std.specs.Option.{option_map_or}
use Rattle.std.proofs.lemmas.Bool.{cases_lt, false≢true}
use Rattle.std.proofs.Math.Nat.{div-zero, le-div_iff_mul-le, mul-le-mul}
use Rattle.std.proofs.lemmas.Bool.Decides.{Decides-eqb}
use Rattle.std.proofs.lemmas.List.FromFn.{get_or-range_with_len, length-range_with_len}
use Rattle.std.proofs.lemmas.List.Kept.{AllPairs-filter}
use Rattle.std.proofs.lemmas.Option.{slice_get_within}
use Rattle.list_laws.proofs.Members.{In, In-contains, In-filter, In-list_any, In-map, In-range, all-from_In, contains-In, from_In-filter, list_any-from_In}
use Rattle.fpga_types.specs.CellNumbers.{all_cells}
use Rattle.fpga_types.specs.Placed.{IsPlacedRouting, NetWires, is_terminal_pin}
use Rattle.fpga_types.specs.Problem.{PlacedNetlist}
use Rattle.fpga_types.specs.Size.{Size}
use Rattle.fpga_types.specs.Terminals.{driver_in, is_number_of, is_ordinary, sinks_in}
use Rattle.fpga_types.specs.Touching.{touches}
use Rattle.fpga_types.specs.declared.arch.Arch.{Arch}
use Rattle.fpga_types.specs.declared.arch.PinSpec.{PinSpec}
use Rattle.fpga_types.specs.declared.grid.Cell.{Cell}
use Rattle.fpga_types.specs.declared.grid.PinAt.{PinAt}
use Rattle.fpga_types.specs.declared.grid.PinAt.TheVariants.{Pad as PadAt, Pin as PinOf}
use Rattle.fpga_types.specs.declared.netlist.Net.{Net}
use Rattle.fpga_types.specs.declared.problem.Terminal.{Terminal}
use Rattle.fpga_types.specs.declared.route.Label.{Label}
use Rattle.fpga_types.specs.declared.route.Label.TheVariants.{Class, Pad, Pin, Track}
use Rattle.fpga_types.proofs.BoxLemmas.{touches-is}
use Rattle.fpga_types.proofs.MeetingLemmas.{both_true}
use Rattle.route_bound.specs.Corners.{Corners, has_corner_in, has_corner_out, is_cut_cell}
use Rattle.route_bound.specs.Crossing.{AreAcross, AreThoseThatCross, Crosses, IsBound, are_across, bound_of, crosses, crossing, cut_cells, tracks_wanted}
use Rattle.route_bound.specs.Lying.{LiesIn, lies_in, pins_at, touched}
use Rattle.route_bound.proofs.CrossLemmas.{cell-there}
use Rattle.route_bound.proofs.PartLemmas.{few-cross}

two-true : (a b : Bool) → a ≡ true → b ≡ true → (a && b) ≡ true
two-true a b e f = rw (e, f) refl

one-true : (a b : Bool) → (a || b) ≡ true → (a ≡ true) ⊎ (b ≡ true)
one-true true b h = inl refl
one-true false b h = inr h

first-true : (a b : Bool) → a ≡ true → (a || b) ≡ true
first-true a b e = rw e refl

second-true : (a b : Bool) → b ≡ true → (a || b) ≡ true
second-true true b e = refl
second-true false b e = e

all-pass : {A : Type 0} (p : A → Bool) (xs : List A) → ((x : A) → In xs x → p x ≡ true)
    → list_all p xs ≡ true
all-pass p [] h = refl
all-pass p (x ∷ xs) h =
    two-true (p x) (list_all p xs) (h x (inl refl)) (all-pass p xs (λ y i. h y (inr i)))

one-passes : {A : Type 0} (p : A → Bool) (xs : List A) (x : A) → list_all p xs ≡ true → In xs x
    → p x ≡ true
one-passes p [] x h i = absurd i
one-passes p (y ∷ ys) x h i = let both = both_true (p y) (list_all p ys) h in elim i [
  | inl e ↦ ap p (sym e) ∙ both.0
  | inr t ↦ one-passes p ys x both.1 t
]

-- ---- the pins of a terminal

module _ (arch : Arch) (at : Terminal) where
  abbrev numbers : List ℕ
  numbers = range_with_len 0 (length arch.pins)

  abbrev candidates : List PinAt
  candidates = PadAt at.x at.y at.number ∷ map (λ pin. PinOf at.x at.y pin) numbers

  pad-number : (label : Label) (class sub : ℕ) → is_number_of arch label class Pad sub ≡ true
      → class ≡ sub
  pad-number Class class sub h = absurd (false≢true h)
  pad-number Pin class sub h = absurd (false≢true h)
  pad-number Pad class sub h = (Decides-eqb class sub).0 h
  pad-number Track class sub h = absurd (false≢true h)

  ordinary-pin : (pin : ℕ) → is_ordinary arch Pin pin ≡ true → pin < length arch.pins
  ordinary-pin pin h = go (slice_get arch.pins pin) refl h
    where
      go : (o : Option PinSpec) → slice_get arch.pins pin ≡ o
          → option_map_or (λ (spec : PinSpec). not spec.global) o false ≡ true
          → pin < length arch.pins
      go None e f = absurd (false≢true f)
      go (Some spec) e f = slice_get_within arch.pins pin spec e

  is-candidate : (pin : PinAt) → is_terminal_pin arch at pin ≡ true → In candidates pin
  is-candidate (PadAt x y sub) h =
      let a = both_true (x == at.x && y == at.y && is_number_of arch at.label at.number Pad sub)
      (is_ordinary arch Pad sub) h in
      let b = both_true (x == at.x && y == at.y)
      (is_number_of arch at.label at.number Pad sub) a.0 in
      let c = both_true (x == at.x) (y == at.y) b.0 in
      let ex : x ≡ at.x = (Decides-eqb x at.x).0 c.0 in
      let ey : y ≡ at.y = (Decides-eqb y at.y).0 c.1 in
      let en : at.number ≡ sub = pad-number at.label at.number sub b.1 in
      inl (λ k. PadAt (sym ex k) (sym ey k) (en k))
  is-candidate (PinOf x y pin) h =
      let a = both_true (x == at.x && y == at.y && is_number_of arch at.label at.number Pin pin)
      (is_ordinary arch Pin pin) h in
      let b = both_true (x == at.x && y == at.y)
      (is_number_of arch at.label at.number Pin pin) a.0 in
      let c = both_true (x == at.x) (y == at.y) b.0 in
      let ex : x ≡ at.x = (Decides-eqb x at.x).0 c.0 in
      let ey : y ≡ at.y = (Decides-eqb y at.y).0 c.1 in
      let same : PinOf at.x at.y pin ≡ PinOf x y pin = (λ k. PinOf (sym ex k) (sym ey k) pin) in
      inr (subst (λ (p : PinAt). In (map (λ n. PinOf at.x at.y n) numbers) p) same
      (In-map (λ n. PinOf at.x at.y n) numbers pin
      (In-range 0 (length arch.pins) pin (omega arith) (omega (arith, ordinary-pin pin a.1)))))

  module _ (grid : Size) (test : Cell → Bool) where
    pub lies-in : lies_in arch grid test at ≡ true → LiesIn arch grid test at
    lies-in h = λ pin cell is touching.
        let each = one-passes (λ p. list_all test (touched arch grid p)) (pins_at arch at) pin h
        (In-filter (is_terminal_pin arch at) candidates pin (is-candidate pin is) is) in
        one-passes test (touched arch grid pin) cell each
        (In-filter (touches arch grid pin) (all_cells grid) cell
        (cell-there grid cell.axis cell.x cell.y touching.is_there)
        ((touches-is arch grid pin cell).1 touching))

    pub in-lies : LiesIn arch grid test at → lies_in arch grid test at ≡ true
    in-lies h =
        all-pass (λ p. list_all test (touched arch grid p)) (pins_at arch at)
        (λ pin i. let is = from_In-filter (is_terminal_pin arch at) candidates pin i in
        all-pass test (touched arch grid pin)
        (λ cell j.
        let touching = from_In-filter (touches arch grid pin) (all_cells grid) cell j in
        h pin cell is.1 ((touches-is arch grid pin cell).0 touching.1)))

-- ---- how many tracks are wanted

pub least-wanted : (nets cells width : ℕ) → 1 ≤ width → nets ≤ width * cells
    → tracks_wanted nets cells ≤ width
least-wanted nets cells width some enough = elim (cases_lt 0 cells) [
  | inl any ↦ elim (cases_lt ((nets - 1) / cells) width) [
    | inl less ↦ omega (arith, less)
    | inr more ↦
        (let high : width * cells ≤ nets - 1 = (le-div_iff_mul-le any).0 more in
        let wires : 1 * 1 ≤ width * cells = mul-le-mul some any in
        absurd (omega (arith, high, enough, wires)))
  ]
  | inr none ↦
      (let e : cells ≡ 0 = omega (arith, none) in
      subst (λ (k : ℕ). (nets - 1) / k + 1 ≤ width) (sym e)
      (omega (arith, div-zero (nets - 1), some)))
]

-- ---- the nets that cross

module _ (placed : PlacedNetlist) (corners : Corners) where
  abbrev arch : Arch
  arch = placed.arch

  abbrev grid : Size
  grid = placed.placement.grid

  abbrev on : Terminal → Bool
  on at = lies_in arch grid (is_cut_cell corners) at

  abbrev inside : Terminal → Bool
  inside at = lies_in arch grid (has_corner_in corners) at

  abbrev outside : Terminal → Bool
  outside at = lies_in arch grid (has_corner_out corners) at

  across : (a b : Terminal) → are_across placed corners a b ≡ true → AreAcross placed corners a b
  across a b h =
      elim (one-true (on a || on b) (inside a && outside b || outside a && inside b) h) [
        | inl e ↦ (elim (one-true (on a) (on b) e) [
          | inl f ↦ inl (inl (lies-in arch a grid (is_cut_cell corners) f))
          | inr f ↦ inl (inr (lies-in arch b grid (is_cut_cell corners) f))
        ])
        | inr e ↦ (elim (one-true (inside a && outside b) (outside a && inside b) e) [
          | inl f ↦
              (let both = both_true (inside a) (outside b) f in
              inr (inl (
                lies-in arch a grid (has_corner_in corners) both.0,
                lies-in arch b grid (has_corner_out corners) both.1,
              )))
          | inr f ↦
              (let both = both_true (outside a) (inside b) f in
              inr (inr (
                lies-in arch a grid (has_corner_out corners) both.0,
                lies-in arch b grid (has_corner_in corners) both.1,
              )))
        ])
      ]

  across-back : (a b : Terminal) → AreAcross placed corners a b → are_across placed corners a b ≡ true
  across-back a b h = elim h [
    | inl s ↦
        first-true (on a || on b) (inside a && outside b || outside a && inside b)
        (elim s [
          | inl f ↦ first-true (on a) (on b) (in-lies arch a grid (is_cut_cell corners) f)
          | inr f ↦ second-true (on a) (on b) (in-lies arch b grid (is_cut_cell corners) f)
        ])
    | inr s ↦
        second-true (on a || on b) (inside a && outside b || outside a && inside b)
        (elim s [
          | inl f ↦
              first-true (inside a && outside b) (outside a && inside b)
              (two-true (inside a) (outside b) (in-lies arch a grid (has_corner_in corners) f.0)
              (in-lies arch b grid (has_corner_out corners) f.1))
          | inr f ↦
              second-true (inside a && outside b) (outside a && inside b)
              (two-true (outside a) (inside b) (in-lies arch a grid (has_corner_out corners) f.0)
              (in-lies arch b grid (has_corner_in corners) f.1))
        ])
  ]

  abbrev nets : List Net
  nets = placed.netlist.nets

  abbrev test : ℕ → Bool
  test number = option_map_or (crosses placed corners) (slice_get nets number) false

  not-global : (b : Bool) → not b ≡ true → b ≡ false
  not-global true h = absurd (false≢true h)
  not-global false h = refl

  test-crosses : (number : ℕ) → test number ≡ true → Crosses placed corners number
  test-crosses number h = go (slice_get nets number) refl h
    where
      driven : (net : Net) (o : Option Terminal) → slice_get nets number ≡ Some net
          → net.global ≡ false → driver_in placed net ≡ o
          → option_map_or (λ driver. list_any (are_across placed corners driver) (sinks_in placed net))
          o false ≡ true
          → Crosses placed corners number
      driven net None e g f t = absurd (false≢true t)
      driven net (Some driver) e g f t =
          let found = In-list_any (are_across placed corners driver) (sinks_in placed net) t in
          record {
            net = net;
            is_net = e;
            ordinary = g;
            driver = driver;
            is_driver = f;
            sink = found.0;
            is_sink = contains-In (sinks_in placed net) found.0 found.1;
            across = across driver found.0 found.2;
          }

      go : (o : Option Net) → slice_get nets number ≡ o
          → option_map_or (crosses placed corners) o false ≡ true → Crosses placed corners number
      go None e t = absurd (false≢true t)
      go (Some net) e t =
          let both = both_true (not net.global) (option_map_or
          (λ driver. list_any (are_across placed corners driver) (sinks_in placed net))
          (driver_in placed net) false) t in
          driven net (driver_in placed net) e (not-global net.global both.0) refl both.1

  crosses-test : (number : ℕ) → Crosses placed corners number → test number ≡ true
  crosses-test number c =
      let any = list_any-from_In (are_across placed corners c.driver) (sinks_in placed c.net) c.sink
      (In-contains (sinks_in placed c.net) c.sink c.is_sink)
      (across-back c.driver c.sink c.across) in
      rw (c.is_net, c.ordinary, c.is_driver, any) refl

  abbrev all_numbers : List ℕ
  all_numbers = range_with_len 0 (length nets)

  pub those-that-cross : AreThoseThatCross placed corners
  those-that-cross = λ number. (
    (λ h. test-crosses number
        (from_In-filter test all_numbers number (In-contains (crossing placed corners) number h)).1),
    (λ c. contains-In (crossing placed corners) number
        (In-filter test all_numbers number
        (In-range 0 (length nets) number (omega arith)
        (omega (arith, slice_get_within nets number c.net c.is_net))) (crosses-test number c))),
  )

  apart-numbers : AllPairs (λ a b. a ≢ b) all_numbers
  apart-numbers = λ i j d before low.
      let count = length-range_with_len 0 (length nets) in
      let high : j < length nets = omega (arith, low, count) in
      let first = get_or-range_with_len 0 (length nets) i d (omega (arith, before, high)) in
      let second = get_or-range_with_len 0 (length nets) j d high in
      λ e. absurd (let same : 0 + i ≡ 0 + j = sym first ∙ e ∙ second in omega (arith, same, before))

  pub few-crossing : (width : ℕ) (has : ℕ → NetWires) → IsPlacedRouting placed width has
      → length (crossing placed corners) ≤ width * length (cut_cells grid corners)
  few-crossing width has routing =
      few-cross placed corners width has routing (crossing placed corners)
      (AllPairs-filter (λ a b. a ≢ b) test all_numbers apart-numbers)
      (all-from_In (Crosses placed corners) (crossing placed corners)
      (λ number i. test-crosses number (from_In-filter test all_numbers number i).1))

  pub is-bound : IsBound placed (bound_of placed corners)
  is-bound = λ width has some routing.
      least-wanted (length (crossing placed corners)) (length (cut_cells grid corners)) width some
      (few-crossing width has routing)

-- A terminal lies in a set of cells where all cells are in it that lie along its sides.
use Rattle.std.proofs.Common.{◌≡◌, ℕ, ◌+◌, ◌-◌, Bool, true, false, List, Option, Some, None, refl, sym, ap, ◌∙◌, subst, arith}
use Rattle.std.specs.Prelude.{◌==◌, ◌&&◌, not, slice_get}
use Rattle.std.specs.List.{list_any}
use Rattle.std.specs.Option.{option_map_or}
use Rattle.std.proofs.lemmas.Bool.{false≢true, le-leb, leb-true}
use Rattle.std.proofs.lemmas.Bool.Decides.{Decides-eqb}
use Rattle.list_laws.proofs.Members.{In-list_any, list_any-from_In}
use Rattle.list_laws.proofs.Places.{In-place, get-In}
use Rattle.fpga_types.specs.Fabric.{is_cell, same_axis}
use Rattle.fpga_types.specs.Placed.{is_terminal_pin}
use Rattle.fpga_types.specs.Size.{Size}
use Rattle.fpga_types.specs.Terminals.{is_number_of, is_ordinary, is_ordinary_pin}
use Rattle.fpga_types.specs.Touching.{has_side, is_beside, is_on_side, lies_along, looks_in}
use Rattle.fpga_types.specs.declared.arch.Arch.{Arch}
use Rattle.fpga_types.specs.declared.arch.PinSpec.{PinSpec}
use Rattle.fpga_types.specs.declared.arch.SideSet.{SideSet}
use Rattle.fpga_types.specs.declared.grid.Axis.{Axis}
use Rattle.fpga_types.specs.declared.grid.Axis.TheVariants.{X, Y}
use Rattle.fpga_types.specs.declared.grid.Cell.{Cell}
use Rattle.fpga_types.specs.declared.grid.PinAt.{PinAt}
use Rattle.fpga_types.specs.declared.grid.PinAt.TheVariants.{Pad as PadAt, Pin as PinOf}
use Rattle.fpga_types.specs.declared.grid.Side.{Side}
use Rattle.fpga_types.specs.declared.grid.Side.TheVariants.{Left, Right, Bottom, Top}
use Rattle.fpga_types.specs.declared.problem.Terminal.{Terminal}
use Rattle.fpga_types.specs.declared.route.Label.{Label}
use Rattle.fpga_types.specs.declared.route.Label.TheVariants.{Class, Pad, Pin, Track}
use Rattle.fpga_types.proofs.MeetingLemmas.{both_true}
use Rattle.route_bound.specs.Lying.{Cells, LiesIn, lies_in}
use Rattle.route_bound.specs.Reaches.{all_along, class_sides, has_cell_along, is_class_pin_on, is_off_end, on_side, pad_sides, reach_of, side_cell, terminal_sides}
use Rattle.route_bound.specs.declared.reach.Reach.{Reach}
use Rattle.route_bound.proofs.InsideLemmas.{in-lies, lies-in}

pub two-true : (a b : Bool) → a ≡ true → b ≡ true → (a && b) ≡ true
two-true a b e f = rw (e, f) refl

pub same-tests : (a b : Bool) → (a ≡ true → b ≡ true) → (b ≡ true → a ≡ true) → a ≡ b
same-tests true b f g = sym (f refl)
same-tests false true f g = g refl
same-tests false false f g = refl

same : (n : ℕ) → (n == n) ≡ true
same n = (Decides-eqb n n).1 refl

-- ---- tests along sides

on-true : (has is : Bool) → (has ≡ true → is ≡ true) → on_side has is ≡ true
on-true true is f = f refl
on-true false is f = refl

true-on : (has is : Bool) → on_side has is ≡ true → has ≡ true → is ≡ true
true-on true is e h = e
true-on false is e h = absurd (false≢true h)

module _ (cells : Cells) (r : Reach) where
  abbrev seen : Side → Bool
  seen side = on_side (has_side r.sides side) (cells (side_cell r.x r.y side))

  along-each : all_along cells r ≡ true → (side : Side) → seen side ≡ true
  along-each h = go
    where
      parts : ((seen Left && seen Right) ≡ true) × ((seen Bottom && seen Top) ≡ true)
      parts = both_true (seen Left && seen Right) (seen Bottom && seen Top) h

      go : (side : Side) → seen side ≡ true
      go Left = (both_true (seen Left) (seen Right) parts.0).0
      go Right = (both_true (seen Left) (seen Right) parts.0).1
      go Bottom = (both_true (seen Bottom) (seen Top) parts.1).0
      go Top = (both_true (seen Bottom) (seen Top) parts.1).1

  each-along : ((side : Side) → seen side ≡ true) → all_along cells r ≡ true
  each-along h =
      two-true (seen Left && seen Right) (seen Bottom && seen Top)
      (two-true (seen Left) (seen Right) (h Left) (h Right))
      (two-true (seen Bottom) (seen Top) (h Bottom) (h Top))

-- ---- the cell along a side

axis-is : (a b : Axis) → same_axis a b ≡ true → a ≡ b
axis-is X X h = refl
axis-is Y Y h = refl
axis-is X Y h = absurd (false≢true h)
axis-is Y X h = absurd (false≢true h)

module _ (x y : ℕ) where
  along-is : (cell : Cell) (side : Side) → lies_along x y cell side ≡ true
      → (cell ≡ side_cell x y side) × (is_off_end x y side ≡ true)
  along-is cell Left h =
      let a = both_true (same_axis cell.axis Y && cell.x + 1 == x) (cell.y == y) h in
      let b = both_true (same_axis cell.axis Y) (cell.x + 1 == x) a.0 in
      let e = axis-is cell.axis Y b.0 in
      let f = (Decides-eqb (cell.x + 1) x).0 b.1 in
      let g : cell.x ≡ x - 1 = omega (arith, f) in
      let k = (Decides-eqb cell.y y).0 a.1 in
      ((λ i. record { axis = e i; x = g i; y = k i }), le-leb 1 x (omega (arith, f)))
  along-is cell Right h =
      let a = both_true (same_axis cell.axis Y && cell.x == x) (cell.y == y) h in
      let b = both_true (same_axis cell.axis Y) (cell.x == x) a.0 in
      let e = axis-is cell.axis Y b.0 in
      let g = (Decides-eqb cell.x x).0 b.1 in
      let k = (Decides-eqb cell.y y).0 a.1 in
      ((λ i. record { axis = e i; x = g i; y = k i }), le-leb 0 x (omega arith))
  along-is cell Bottom h =
      let a = both_true (same_axis cell.axis X && cell.x == x) (cell.y + 1 == y) h in
      let b = both_true (same_axis cell.axis X) (cell.x == x) a.0 in
      let e = axis-is cell.axis X b.0 in
      let g = (Decides-eqb cell.x x).0 b.1 in
      let f = (Decides-eqb (cell.y + 1) y).0 a.1 in
      let k : cell.y ≡ y - 1 = omega (arith, f) in
      ((λ i. record { axis = e i; x = g i; y = k i }), le-leb 1 y (omega (arith, f)))
  along-is cell Top h =
      let a = both_true (same_axis cell.axis X && cell.x == x) (cell.y == y) h in
      let b = both_true (same_axis cell.axis X) (cell.x == x) a.0 in
      let e = axis-is cell.axis X b.0 in
      let g = (Decides-eqb cell.x x).0 b.1 in
      let k = (Decides-eqb cell.y y).0 a.1 in
      ((λ i. record { axis = e i; x = g i; y = k i }), le-leb 0 y (omega arith))

  is-along : (side : Side) → is_off_end x y side ≡ true
      → lies_along x y (side_cell x y side) side ≡ true
  is-along Left h =
      let some = leb-true 1 x h in
      let back : x - 1 + 1 ≡ x = omega (arith, some) in
      rw ((Decides-eqb (x - 1 + 1) x).1 back, same y) refl
  is-along Right h = rw (same x, same y) refl
  is-along Bottom h =
      let some = leb-true 1 y h in
      let back : y - 1 + 1 ≡ y = omega (arith, some) in
      rw ((Decides-eqb (y - 1 + 1) y).1 back, same x) refl
  is-along Top h = rw (same x, same y) refl

-- ---- the sides of a terminal

class-side : (pins : List PinSpec) (class : ℕ) (side : Side)
    → has_side (class_sides pins class) side ≡ list_any (is_class_pin_on class side) pins
class-side pins class Left = refl
class-side pins class Right = refl
class-side pins class Bottom = refl
class-side pins class Top = refl

pad-side : (grid : Size) (x y : ℕ) (side : Side)
    → has_side (pad_sides grid x y) side ≡ looks_in grid x y side
pad-side grid x y Left = refl
pad-side grid x y Right = refl
pad-side grid x y Bottom = refl
pad-side grid x y Top = refl

no-side : (side : Side)
    → has_side (record { left = false; right = false; bottom = false; top = false }) side ≡ true
    → ⊥
no-side Left h = false≢true h
no-side Right h = false≢true h
no-side Bottom h = false≢true h
no-side Top h = false≢true h

module _ (arch : Arch) (grid : Size) (x y : ℕ) where
  abbrev at_place : Label → ℕ → Terminal
  at_place label number = record { x = x; y = y; label = label; number = number }

  -- a pin of the terminal that is on this side
  pub record HasPinOn (at : Terminal) (side : Side) : Type 0 where
    pub pin : PinAt
    pub of : is_terminal_pin arch at pin ≡ true
    pub on : is_on_side arch grid pin side ≡ true
    pub beside : (cell : Cell) → is_beside pin cell side ≡ lies_along at.x at.y cell side

  class-pin : (number : ℕ) (side : Side) → has_side (class_sides arch.pins number) side ≡ true
      → HasPinOn (at_place Class number) side
  class-pin number side h =
      let found = In-list_any (is_class_pin_on number side) arch.pins
      (sym (class-side arch.pins number side) ∙ h) in
      let place = In-place arch.pins found.0 found.1 in
      let here : slice_get arch.pins place.0 ≡ Some found.0 = place.1 in
      let a = both_true (found.0.class == number && not found.0.global)
      (has_side found.0.sides side) found.2 in
      let b = both_true (found.0.class == number) (not found.0.global) a.0 in
      record {
        pin = PinOf x y place.0;
        of = rw (same x, same y, here, b.0, b.1) refl;
        on = rw (here, a.1) refl;
        beside = λ cell. refl;
      }

  side-pin : (label : Label) (number : ℕ) (side : Side)
      → has_side (terminal_sides arch grid x y label number) side ≡ true
      → HasPinOn (at_place label number) side
  side-pin Class number side h = class-pin number side h
  side-pin Pad number side h = record {
    pin = PadAt x y number;
    of = rw (same x, same y, same number) refl;
    on = sym (pad-side grid x y side) ∙ h;
    beside = λ cell. refl;
  }
  side-pin Pin number side h = absurd (no-side side h)
  side-pin Track number side h = absurd (no-side side h)

  pad-on : (label : Label) (number sub : ℕ) (side : Side)
      → is_number_of arch label number Pad sub ≡ true → looks_in grid x y side ≡ true
      → has_side (terminal_sides arch grid x y label number) side ≡ true
  pad-on Class number sub side h on = absurd (false≢true h)
  pad-on Pad number sub side h on = pad-side grid x y side ∙ on
  pad-on Pin number sub side h on = absurd (false≢true h)
  pad-on Track number sub side h on = absurd (false≢true h)

  pin-on : (label : Label) (number pin : ℕ) (side : Side)
      → is_number_of arch label number Pin pin ≡ true → is_ordinary_pin arch pin ≡ true
      → is_on_side arch grid (PinOf x y pin) side ≡ true
      → has_side (terminal_sides arch grid x y label number) side ≡ true
  pin-on Class number pin side h ordinary on =
      class-side arch.pins number side
      ∙ go (slice_get arch.pins pin) refl h ordinary on
    where
      go : (o : Option PinSpec) → slice_get arch.pins pin ≡ o
          → option_map_or (λ (spec : PinSpec). spec.class == number) o false ≡ true
          → option_map_or (λ (spec : PinSpec). not spec.global) o false ≡ true
          → option_map_or (λ (spec : PinSpec). has_side spec.sides side) o false ≡ true
          → list_any (is_class_pin_on number side) arch.pins ≡ true
      go None e a b d = absurd (false≢true a)
      go (Some spec) e a b d =
          list_any-from_In (is_class_pin_on number side) arch.pins spec
          (get-In arch.pins pin spec e)
          (two-true (spec.class == number && not spec.global) (has_side spec.sides side)
          (two-true (spec.class == number) (not spec.global) a b) d)
  pin-on Pad number pin side h ordinary on = absurd (false≢true h)
  pin-on Pin number pin side h ordinary on = absurd (false≢true h)
  pin-on Track number pin side h ordinary on = absurd (false≢true h)

module _ (arch : Arch) (grid : Size) (at : Terminal) where
  abbrev sides : SideSet
  sides = terminal_sides arch grid at.x at.y at.label at.number

  abbrev reach : Reach
  reach = reach_of arch grid at

  side-is : (side : Side)
      → has_side reach.sides side ≡ (has_side sides side && has_cell_along grid at.x at.y side)
  side-is Left = refl
  side-is Right = refl
  side-is Bottom = refl
  side-is Top = refl

  -- a pin of the terminal is at its place, and a side that it is on is one of the terminal's
  on-sides : (pin : PinAt) (side : Side) → is_terminal_pin arch at pin ≡ true
      → is_on_side arch grid pin side ≡ true
      → (has_side sides side ≡ true)
      × ((cell : Cell) → is_beside pin cell side ≡ lies_along at.x at.y cell side)
  on-sides (PadAt x y sub) side h on =
      let a = both_true (x == at.x && y == at.y && is_number_of arch at.label at.number Pad sub)
      (is_ordinary arch Pad sub) h in
      let b = both_true (x == at.x && y == at.y)
      (is_number_of arch at.label at.number Pad sub) a.0 in
      let c = both_true (x == at.x) (y == at.y) b.0 in
      let ex : x ≡ at.x = (Decides-eqb x at.x).0 c.0 in
      let ey : y ≡ at.y = (Decides-eqb y at.y).0 c.1 in (
        pad-on arch grid at.x at.y at.label at.number sub side b.1
            ((λ k. looks_in grid (sym ex k) (sym ey k) side) ∙ on),
        (λ cell k. lies_along (ex k) (ey k) cell side),
      )
  on-sides (PinOf x y pin) side h on =
      let a = both_true (x == at.x && y == at.y && is_number_of arch at.label at.number Pin pin)
      (is_ordinary arch Pin pin) h in
      let b = both_true (x == at.x && y == at.y)
      (is_number_of arch at.label at.number Pin pin) a.0 in
      let c = both_true (x == at.x) (y == at.y) b.0 in
      let ex : x ≡ at.x = (Decides-eqb x at.x).0 c.0 in
      let ey : y ≡ at.y = (Decides-eqb y at.y).0 c.1 in (
        pin-on arch grid at.x at.y at.label at.number pin side b.1 a.1 on,
        (λ cell k. lies_along (ex k) (ey k) cell side),
      )

  module _ (cells : Cells) where
    lies-each : lies_in arch grid cells at ≡ true → (side : Side)
        → seen cells reach side ≡ true
    lies-each h side =
        on-true (has_side reach.sides side) (cells (side_cell at.x at.y side))
        (λ has.
        let a = both_true (has_side sides side) (has_cell_along grid at.x at.y side)
        (sym (side-is side) ∙ has) in
        let b = both_true (is_off_end at.x at.y side) (is_cell grid (side_cell at.x at.y side)) a.1
        in
        let pin = side-pin arch grid at.x at.y at.label at.number side a.0 in
        lies-in arch at grid cells h pin.pin (side_cell at.x at.y side) pin.of
        (record {
          is_there = b.1;
          side = side;
          is_on = pin.on;
          along = pin.beside (side_cell at.x at.y side) ∙ is-along at.x at.y side b.0;
        }))

    along-lies : all_along cells reach ≡ true → LiesIn arch grid cells at
    along-lies h = λ pin cell of touching.
        let on = on-sides pin touching.side of touching.is_on in
        let along = along-is at.x at.y cell touching.side (sym (on.1 cell) ∙ touching.along) in
        let there : is_cell grid (side_cell at.x at.y touching.side) ≡ true =
        subst (λ (c : Cell). is_cell grid c ≡ true) along.0 touching.is_there in
        let has = side-is touching.side
        ∙ two-true (has_side sides touching.side)
        (has_cell_along grid at.x at.y touching.side) on.0
        (two-true (is_off_end at.x at.y touching.side)
        (is_cell grid (side_cell at.x at.y touching.side)) along.1 there) in
        ap cells along.0
        ∙ true-on (has_side reach.sides touching.side)
        (cells (side_cell at.x at.y touching.side))
        (along-each cells reach h touching.side) has

    pub lies-along : lies_in arch grid cells at ≡ all_along cells reach
    lies-along =
        same-tests (lies_in arch grid cells at) (all_along cells reach)
        (λ h. each-along cells reach (lies-each h)) (λ h. in-lies arch at grid cells (along-lies h))

-- The pins of a terminal are those that take ordinary nets, and the wires that they open are of the
-- array.
use Rattle.std.proofs.Common.{◌≡◌, ℕ, zero, suc, ◌<◌, ◌≤◌, Bool, true, false, List, [], ◌∷◌, length, refl, sym, subst, inl, inr, arith}
use Rattle.std.specs.Prelude.{◌==◌, ◌&&◌, All, filter, slice_get}
use Rattle.std.specs.List.{range_with_len}
use Rattle.std.specs.Option.{option_map_or}
use Rattle.std.proofs.Math.Nat.{mod-lt}
use Rattle.std.proofs.lemmas.Bool.{false≢true}
use Rattle.std.proofs.lemmas.Bool.Decides.{Decides-eqb}
use Rattle.list_laws.proofs.Members.{In, In-filter, In-flat_map, In-map, In-range, all-from_In, contains-In, from_In-filter, from_In-flat_map, from_In-map, from_In-range, In-contains}
use Rattle.fpga_graph.specs.GraphOf.{GraphOf}
use Rattle.fpga_graph.specs.Wires.{IsWire, Reaches, opened_wires}
use Rattle.fpga_graph.proofs.ReachedLemmas.{are-reached}
use Rattle.fpga_types.specs.Pins.{HasPin}
use Rattle.fpga_types.specs.Placed.{is_terminal_pin}
use Rattle.fpga_types.specs.Terminals.{is_of_class, is_ordinary_pin}
use Rattle.fpga_types.specs.declared.arch.Arch.{Arch}
use Rattle.fpga_types.specs.declared.grid.PinAt.{PinAt}
use Rattle.fpga_types.specs.declared.grid.PinAt.TheVariants.{Pad as PadAt, Pin as PinOf}
use Rattle.fpga_types.specs.declared.grid.Wire.{Wire}
use Rattle.fpga_types.specs.declared.problem.Terminal.{Terminal}
use Rattle.fpga_types.specs.declared.route.Label.{Label}
use Rattle.fpga_types.specs.declared.route.Label.TheVariants.{Class, Pad, Pin, Track}
use Rattle.fpga_types.proofs.MeetingLemmas.{both_true}
use Rattle.route_parts.specs.Opening.{class_pins, is_open_pin, terminal_pins, terminal_wires}

pub eqb-is : (a b : ℕ) → (a == b) ≡ true → a ≡ b
eqb-is a b h = (Decides-eqb a b).0 h

pub is-eqb : (a b : ℕ) → a ≡ b → (a == b) ≡ true
is-eqb a b h = (Decides-eqb a b).1 h

two-true : (a b : Bool) → a ≡ true → b ≡ true → (a && b) ≡ true
two-true a b h g = rw (h, g) refl

-- what passes a test at a place is there
pub tested-there : {A : Type 0} (p : A → Bool) (xs : List A) (k : ℕ)
    → option_map_or p (slice_get xs k) false ≡ true → k < length xs
tested-there p [] k h = absurd (false≢true h)
tested-there p (x ∷ xs) zero h = omega arith
tested-there p (x ∷ xs) (suc k) h = let r = tested-there p xs k h in omega (arith, r)

abbrev terminal : (x y : ℕ) → Label → (number : ℕ) → Terminal
terminal x y label number = record { x = x; y = y; label = label; number = number }

in-pins : (arch : Arch) (x y : ℕ) (label : Label) (number : ℕ) (pin : PinAt)
    → is_terminal_pin arch (terminal x y label number) pin ≡ true
    → In (terminal_pins arch x y label number) pin
in-pins arch x y Class class (PinOf u v pin) h =
    let a = both_true (u == x && v == y && is_of_class arch class pin)
    (is_ordinary_pin arch pin) h in
    let b = both_true (u == x && v == y) (is_of_class arch class pin) a.0 in
    let c = both_true (u == x) (v == y) b.0 in
    let column = sym (eqb-is u x c.0) in
    let row = sym (eqb-is v y c.1) in
    let low : pin < length arch.pins = tested-there _ arch.pins pin b.1 in
    subst (λ (p : PinAt). In (class_pins arch x y class) p) (λ i. PinOf (column i) (row i) pin)
    (In-map (λ p. PinOf x y p)
    (filter (is_open_pin arch class) (range_with_len 0 (length arch.pins))) pin
    (In-filter (is_open_pin arch class) (range_with_len 0 (length arch.pins)) pin
    (In-range 0 (length arch.pins) pin (omega arith) (omega (arith, low)))
    (two-true (is_of_class arch class pin) (is_ordinary_pin arch pin) b.1 a.1)))
in-pins arch x y Pad sub (PadAt u v n) h =
    let a = both_true (u == x && v == y && sub == n) true h in
    let b = both_true (u == x && v == y) (sub == n) a.0 in
    let c = both_true (u == x) (v == y) b.0 in
    let column = sym (eqb-is u x c.0) in
    let row = sym (eqb-is v y c.1) in
    let number = eqb-is sub n b.1 in
    inl (λ i. PadAt (column i) (row i) (number i))
in-pins arch x y Class class (PadAt u v n) h =
    absurd (false≢true (both_true (u == x && v == y) false
    (both_true (u == x && v == y && false) true h).0).1)
in-pins arch x y Pad sub (PinOf u v pin) h =
    absurd (false≢true (both_true (u == x && v == y) false
    (both_true (u == x && v == y && false) (is_ordinary_pin arch pin) h).0).1)
in-pins arch x y Pin number (PinOf u v pin) h =
    absurd (false≢true (both_true (u == x && v == y) false
    (both_true (u == x && v == y && false) (is_ordinary_pin arch pin) h).0).1)
in-pins arch x y Pin number (PadAt u v n) h =
    absurd (false≢true (both_true (u == x && v == y) false
    (both_true (u == x && v == y && false) true h).0).1)
in-pins arch x y Track number (PinOf u v pin) h =
    absurd (false≢true (both_true (u == x && v == y) false
    (both_true (u == x && v == y && false) (is_ordinary_pin arch pin) h).0).1)
in-pins arch x y Track number (PadAt u v n) h =
    absurd (false≢true (both_true (u == x && v == y) false
    (both_true (u == x && v == y && false) true h).0).1)

from-pins : (arch : Arch) (x y : ℕ) (label : Label) (number : ℕ) (pin : PinAt)
    → In (terminal_pins arch x y label number) pin
    → (is_terminal_pin arch (terminal x y label number) pin ≡ true) × HasPin arch pin
from-pins arch x y Class class pin i =
    let numbers = range_with_len 0 (length arch.pins) in
    let made = from_In-map (λ p. PinOf x y p) (filter (is_open_pin arch class) numbers) pin i in
    let kept = from_In-filter (is_open_pin arch class) numbers made.0 made.1 in
    let tests = both_true (is_of_class arch class made.0) (is_ordinary_pin arch made.0) kept.1 in
    subst (λ (p : PinAt). (is_terminal_pin arch (terminal x y Class class) p ≡ true)
    × HasPin arch p) made.2 (
      two-true (x == x && y == y && is_of_class arch class made.0)
          (is_ordinary_pin arch made.0)
          (two-true (x == x && y == y) (is_of_class arch class made.0)
          (two-true (x == x) (y == y) (is-eqb x x refl) (is-eqb y y refl)) tests.0) tests.1,
      (let low = from_In-range 0 (length arch.pins) made.0 kept.0 in omega (arith, low.1)),
    )
from-pins arch x y Pad sub pin i = elim i [
  | inl e ↦ subst (λ (p : PinAt). (is_terminal_pin arch (terminal x y Pad sub) p ≡ true)
      × HasPin arch p) e (
        two-true (x == x && y == y && sub == sub) true
            (two-true (x == x && y == y) (sub == sub)
            (two-true (x == x) (y == y) (is-eqb x x refl) (is-eqb y y refl))
            (is-eqb sub sub refl)) refl,
        tt,
      )
  | inr none ↦ absurd none
]
from-pins arch x y Pin number pin i = absurd i
from-pins arch x y Track number pin i = absurd i

-- the architecture has the pins of a terminal
pub pins-there : (arch : Arch) (x y : ℕ) (label : Label) (number : ℕ)
    → All (HasPin arch) (terminal_pins arch x y label number)
pins-there arch x y label number =
    all-from_In (HasPin arch) (terminal_pins arch x y label number)
    (λ pin i. (from-pins arch x y label number pin i).1)

module _ (g : GraphOf) where
  -- the wires that a pin opens are of the array
  pub opened-wire : (pin : PinAt) (w : Wire) → 1 ≤ g.width → Reaches g pin w → IsWire g w
  opened-wire pin w some reaches = record {
    cell = reaches.touches.is_there;
    track = subst (λ (t : ℕ). t < g.width) reaches.opens.2 (mod-lt _ (omega (arith, some)));
  }

  pub opened-there : (pin : PinAt) → 1 ≤ g.width → All (IsWire g) (opened_wires g pin)
  opened-there pin some = all-from_In (IsWire g) (opened_wires g pin)
      (λ w i. opened-wire pin w some
      (((are-reached g pin).each w).0 (contains-In (opened_wires g pin) w i)))

  -- a wire that a terminal opens, and the pin that opens it
  pub from-terminal : (at : Terminal) (w : Wire) → In (terminal_wires g at) w
      → (pin : PinAt) × (is_terminal_pin g.arch at pin ≡ true) × Reaches g pin w
  from-terminal at w i =
      let pins = terminal_pins g.arch at.x at.y at.label at.number in
      let from = from_In-flat_map (opened_wires g) pins w i in (
        from.0,
        (from-pins g.arch at.x at.y at.label at.number from.0 from.1).0,
        ((are-reached g from.0).each w).0 (contains-In (opened_wires g from.0) w from.2),
      )

  pub in-terminal : (at : Terminal) (w : Wire) (pin : PinAt)
      → is_terminal_pin g.arch at pin ≡ true → Reaches g pin w → In (terminal_wires g at) w
  in-terminal at w pin is reaches =
      In-flat_map (opened_wires g) (terminal_pins g.arch at.x at.y at.label at.number) pin w
      (in-pins g.arch at.x at.y at.label at.number pin is)
      (In-contains (opened_wires g pin) w (((are-reached g pin).each w).1 reaches))

-- The pins of a terminal are among those that are looked at, and told apart by their numbers.
use Rattle.std.proofs.Common.{◌≡◌, ℕ, ◌+◌, ◌<◌, true, false, List, ◌∷◌, Option, None, Some, length, refl, sym, ◌∙◌, subst, inl, inr, arith}
use Rattle.std.specs.Prelude.{◌==◌, ◌&&◌, map, not, slice_get}
use Rattle.std.specs.List.{range_with_len}
use Rattle.std.specs.Option.{option_map_or}
use Rattle.std.proofs.lemmas.Bool.{false≢true}
use Rattle.std.proofs.lemmas.Bool.Decides.{Decides-eqb}
use Rattle.std.proofs.lemmas.Option.{slice_get_within}
use Rattle.list_laws.proofs.Members.{In, In-filter, In-map, In-range, from_In-filter}
use Rattle.fpga_types.specs.Kinds.{same_label}
use Rattle.fpga_types.specs.Placed.{is_terminal_pin}
use Rattle.fpga_types.specs.Terminals.{is_number_of, is_ordinary, same_terminal}
use Rattle.fpga_types.specs.declared.arch.Arch.{Arch}
use Rattle.fpga_types.specs.declared.arch.PinSpec.{PinSpec}
use Rattle.fpga_types.specs.declared.grid.PinAt.{PinAt}
use Rattle.fpga_types.specs.declared.grid.PinAt.TheVariants.{Pad as PadAt, Pin as PinOf}
use Rattle.fpga_types.specs.declared.problem.Terminal.{Terminal}
use Rattle.fpga_types.specs.declared.route.Label.{Label}
use Rattle.fpga_types.specs.declared.route.Label.TheVariants.{Class, Pad, Pin, Track}
use Rattle.fpga_types.proofs.MeetingLemmas.{both_true}
use Rattle.route_bound.specs.Lying.{pins_at}
use Rattle.cell_clauses.specs.Places.{pin_number}

module _ (arch : Arch) (at : Terminal) where
  -- a pad of the terminal
  pad-is : (x y sub : ℕ) → is_terminal_pin arch at (PadAt x y sub) ≡ true
      → (x ≡ at.x) × (y ≡ at.y) × (is_number_of arch at.label at.number Pad sub ≡ true)
  pad-is x y sub h =
      let a = both_true (x == at.x && y == at.y && is_number_of arch at.label at.number Pad sub)
      (is_ordinary arch Pad sub) h in
      let b = both_true (x == at.x && y == at.y)
      (is_number_of arch at.label at.number Pad sub) a.0 in
      let c = both_true (x == at.x) (y == at.y) b.0 in
      ((Decides-eqb x at.x).0 c.0, (Decides-eqb y at.y).0 c.1, b.1)

  -- a pin of a block of the terminal
  pin-is : (x y pin : ℕ) → is_terminal_pin arch at (PinOf x y pin) ≡ true
      → (x ≡ at.x) × (y ≡ at.y) × (is_number_of arch at.label at.number Pin pin ≡ true)
      × (is_ordinary arch Pin pin ≡ true)
  pin-is x y pin h =
      let a = both_true (x == at.x && y == at.y && is_number_of arch at.label at.number Pin pin)
      (is_ordinary arch Pin pin) h in
      let b = both_true (x == at.x && y == at.y)
      (is_number_of arch at.label at.number Pin pin) a.0 in
      let c = both_true (x == at.x) (y == at.y) b.0 in
      ((Decides-eqb x at.x).0 c.0, (Decides-eqb y at.y).0 c.1, b.1, a.1)

  pad-number : (label : Label) (number sub : ℕ) → is_number_of arch label number Pad sub ≡ true
      → number ≡ sub
  pad-number Class number sub h = absurd (false≢true h)
  pad-number Pin number sub h = absurd (false≢true h)
  pad-number Pad number sub h = (Decides-eqb number sub).0 h
  pad-number Track number sub h = absurd (false≢true h)

  not-both-kinds : (label : Label) (number sub pin : ℕ)
      → is_number_of arch label number Pad sub ≡ true
      → is_number_of arch label number Pin pin ≡ true → ⊥
  not-both-kinds Class number sub pin h g = false≢true h
  not-both-kinds Pin number sub pin h g = false≢true h
  not-both-kinds Pad number sub pin h g = false≢true g
  not-both-kinds Track number sub pin h g = false≢true h

  ordinary-low : (pin : ℕ) → is_ordinary arch Pin pin ≡ true → pin < length arch.pins
  ordinary-low pin h = go (slice_get arch.pins pin) refl h
    where
      go : (o : Option PinSpec) → slice_get arch.pins pin ≡ o
          → option_map_or (λ (spec : PinSpec). not spec.global) o false ≡ true
          → pin < length arch.pins
      go None e f = absurd (false≢true f)
      go (Some spec) e f = slice_get_within arch.pins pin spec e

  abbrev numbers : List ℕ
  numbers = range_with_len 0 (length arch.pins)

  abbrev candidates : List PinAt
  candidates = PadAt at.x at.y at.number ∷ map (λ pin. PinOf at.x at.y pin) numbers

  candidate : (pin : PinAt) → is_terminal_pin arch at pin ≡ true → In candidates pin
  candidate (PadAt x y sub) h =
      let is = pad-is x y sub h in
      let n : at.number ≡ sub = pad-number at.label at.number sub is.2 in
      inl (λ k. PadAt (sym is.0 k) (sym is.1 k) (n k))
  candidate (PinOf x y pin) h =
      let is = pin-is x y pin h in
      let same : PinOf at.x at.y pin ≡ PinOf x y pin = (λ k. PinOf (sym is.0 k) (sym is.1 k) pin) in
      inr (subst (λ (p : PinAt). In (map (λ n. PinOf at.x at.y n) numbers) p) same
      (In-map (λ n. PinOf at.x at.y n) numbers pin
      (In-range 0 (length arch.pins) pin (omega arith) (omega (arith, ordinary-low pin is.3)))))

  pub pin-there : (pin : PinAt) → is_terminal_pin arch at pin ≡ true → In (pins_at arch at) pin
  pin-there pin h = In-filter (is_terminal_pin arch at) candidates pin (candidate pin h) h

  pub there-pin : (pin : PinAt) → In (pins_at arch at) pin → is_terminal_pin arch at pin ≡ true
  there-pin pin i = (from_In-filter (is_terminal_pin arch at) candidates pin i).1

  pub number-low : (pin : PinAt) → is_terminal_pin arch at pin ≡ true
      → pin_number pin < length arch.pins + 1
  number-low (PadAt x y sub) h = omega arith
  number-low (PinOf x y pin) h = omega (arith, ordinary-low pin (pin-is x y pin h).3)

  -- pins of a terminal with one number are one pin
  pub same-pin : (p q : PinAt) → is_terminal_pin arch at p ≡ true
      → is_terminal_pin arch at q ≡ true → pin_number p ≡ pin_number q → p ≡ q
  same-pin (PadAt x y sub) (PadAt u v tub) h g e =
      let a = pad-is x y sub h in
      let b = pad-is u v tub g in
      let same : sub ≡ tub =
      sym (pad-number at.label at.number sub a.2) ∙ pad-number at.label at.number tub b.2 in
      let column : x ≡ u = a.0 ∙ sym b.0 in
      let row : y ≡ v = a.1 ∙ sym b.1 in
      λ k. PadAt (column k) (row k) (same k)
  same-pin (PadAt x y sub) (PinOf u v pin) h g e =
      absurd (not-both-kinds at.label at.number sub pin (pad-is x y sub h).2 (pin-is u v pin g).2)
  same-pin (PinOf x y pin) (PadAt u v sub) h g e =
      absurd (not-both-kinds at.label at.number sub pin (pad-is u v sub g).2 (pin-is x y pin h).2)
  same-pin (PinOf x y pin) (PinOf u v other) h g e =
      let a = pin-is x y pin h in
      let b = pin-is u v other g in
      let column : x ≡ u = a.0 ∙ sym b.0 in
      let row : y ≡ v = a.1 ∙ sym b.1 in
      λ k. PinOf (column k) (row k) (e k)

same-label : (a b : Label) → same_label a b ≡ true → a ≡ b
same-label Class Class h = refl
same-label Class Pin h = absurd (false≢true h)
same-label Class Pad h = absurd (false≢true h)
same-label Class Track h = absurd (false≢true h)
same-label Pin Class h = absurd (false≢true h)
same-label Pin Pin h = refl
same-label Pin Pad h = absurd (false≢true h)
same-label Pin Track h = absurd (false≢true h)
same-label Pad Class h = absurd (false≢true h)
same-label Pad Pin h = absurd (false≢true h)
same-label Pad Pad h = refl
same-label Pad Track h = absurd (false≢true h)
same-label Track Class h = absurd (false≢true h)
same-label Track Pin h = absurd (false≢true h)
same-label Track Pad h = absurd (false≢true h)
same-label Track Track h = refl

pub one-terminal : (a b : Terminal) → same_terminal a b ≡ true → a ≡ b
one-terminal a b h =
    let c = both_true (a.x == b.x && a.y == b.y && same_label a.label b.label)
    (a.number == b.number) h in
    let d = both_true (a.x == b.x && a.y == b.y) (same_label a.label b.label) c.0 in
    let e = both_true (a.x == b.x) (a.y == b.y) d.0 in
    let column = (Decides-eqb a.x b.x).0 e.0 in
    let row = (Decides-eqb a.y b.y).0 e.1 in
    let label = same-label a.label b.label d.1 in
    let number = (Decides-eqb a.number b.number).0 c.1 in
    λ k. record { x = column k; y = row k; label = label k; number = number k }

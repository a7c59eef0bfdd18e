-- Which kinds of lines may stand before a channel, an IPIN and a SINK, and what a channel line and
-- a pin line are of.
use Rattle.std.proofs.Common.{◌≡◌, ℕ, ◌⊎◌, Bool, true, false, Option, Some, None, refl, sym, ap, ◌∙◌, inl, inr}
use Rattle.std.specs.Prelude.{◌&&◌, ◌==◌, option_map, slice_get}
use Rattle.std.specs.Option.{option_map_or}
use Rattle.std.proofs.lemmas.Bool.{and_from, eqb-true, false≢true}
use Rattle.fpga_types.specs.Kinds.{is_channel, is_ipin, is_opin, is_sink, is_source, may_follow}
use Rattle.fpga_types.specs.Placed.{is_terminal_pin}
use Rattle.fpga_types.specs.Slots.{channel_at, elem_pin, labelled_pin, pin_at}
use Rattle.fpga_types.specs.Terminals.{is_number_of, is_of_class, is_ordinary, is_pin_at, is_terminal, named_terminal}
use Rattle.fpga_types.specs.declared.arch.Arch.{Arch}
use Rattle.fpga_types.specs.declared.arch.PinSpec.{PinSpec}
use Rattle.fpga_types.specs.declared.grid.Axis.TheVariants.{X, Y}
use Rattle.fpga_types.specs.declared.grid.Cell.{Cell}
use Rattle.fpga_types.specs.declared.grid.PinAt.{PinAt}
use Rattle.fpga_types.specs.declared.grid.PinAt.TheVariants.{Pad as PadAt, Pin as PinOf}
use Rattle.fpga_types.specs.declared.grid.Wire.{Wire}
use Rattle.fpga_types.specs.declared.problem.Terminal.{Terminal}
use Rattle.fpga_types.specs.declared.route.Elem.{Elem}
use Rattle.fpga_types.specs.declared.route.ElemKind.{ElemKind}
use Rattle.fpga_types.specs.declared.route.ElemKind.TheVariants.{Source, Opin, ChanX, ChanY, Ipin, Sink}
use Rattle.fpga_types.specs.declared.route.Label.{Label}
use Rattle.fpga_types.specs.declared.route.Label.TheVariants.{Class, Pin, Pad, Track}
use Rattle.fpga_types.proofs.MeetingLemmas.{both_true, same_cell-is}
use Rattle.route_verify.specs.Lines.{is_on_wire}
use Rattle.route_verify.specs.Wiring.{elem_wire, same_wire}
use Rattle.route_verify.proofs.EqualLines.{same_label-is}

-- a channel is no other kind
pub no-source : (k : ElemKind) → is_channel k ≡ true → is_source k ≡ true → ⊥
no-source Source c s = false≢true c
no-source k c s = false≢true s

no-opin : (k : ElemKind) → is_channel k ≡ true → is_opin k ≡ true → ⊥
no-opin Opin c s = false≢true c
no-opin k c s = false≢true s

no-sink : (k : ElemKind) → is_channel k ≡ true → is_sink k ≡ true → ⊥
no-sink Sink c s = false≢true c
no-sink k c s = false≢true s

-- what stands before a channel
pub before-channel : (k m : ElemKind) → may_follow k m ≡ true → is_channel m ≡ true
    → (is_opin k ≡ true) ⊎ ((is_channel k ≡ true) ⊎ (is_sink k ≡ true))
before-channel Source m follows is = absurd (no-opin m is follows)
before-channel Opin m follows is = inl refl
before-channel ChanX m follows is = inr (inl refl)
before-channel ChanY m follows is = inr (inl refl)
before-channel Ipin m follows is = absurd (no-sink m is follows)
before-channel Sink m follows is = inr (inr refl)

-- what stands before an IPIN
pub before-ipin : (k m : ElemKind) → may_follow k m ≡ true → is_ipin m ≡ true
    → is_channel k ≡ true
before-ipin Source Ipin follows is = absurd (false≢true follows)
before-ipin Opin Ipin follows is = absurd (false≢true follows)
before-ipin ChanX Ipin follows is = refl
before-ipin ChanY Ipin follows is = refl
before-ipin Ipin Ipin follows is = absurd (false≢true follows)
before-ipin Sink Ipin follows is = absurd (false≢true follows)
before-ipin k Source follows is = absurd (false≢true is)
before-ipin k Opin follows is = absurd (false≢true is)
before-ipin k ChanX follows is = absurd (false≢true is)
before-ipin k ChanY follows is = absurd (false≢true is)
before-ipin k Sink follows is = absurd (false≢true is)

-- what stands before a SINK
pub before-sink : (k m : ElemKind) → may_follow k m ≡ true → is_sink m ≡ true → is_ipin k ≡ true
before-sink Source Sink follows is = absurd (false≢true follows)
before-sink Opin Sink follows is = absurd (false≢true follows)
before-sink ChanX Sink follows is = absurd (false≢true follows)
before-sink ChanY Sink follows is = absurd (false≢true follows)
before-sink Ipin Sink follows is = refl
before-sink Sink Sink follows is = absurd (false≢true follows)
before-sink k Source follows is = absurd (false≢true is)
before-sink k Opin follows is = absurd (false≢true is)
before-sink k ChanX follows is = absurd (false≢true is)
before-sink k ChanY follows is = absurd (false≢true is)
before-sink k Ipin follows is = absurd (false≢true is)

-- IPIN and SINK stand first in no net
pub ipin-no-source : (k : ElemKind) → is_ipin k ≡ true → is_source k ≡ true → ⊥
ipin-no-source Source c s = false≢true c
ipin-no-source k c s = false≢true s

pub sink-no-source : (k : ElemKind) → is_sink k ≡ true → is_source k ≡ true → ⊥
sink-no-source Source c s = false≢true c
sink-no-source k c s = false≢true s

-- a channel line has a wire, and what has one is a channel line
pub channel-wire : (e : Elem) → is_channel e.kind ≡ true → (w : Wire) × (elem_wire e ≡ Some w)
channel-wire e is = go e.kind is
  where
    go : (k : ElemKind) → is_channel k ≡ true → (w : Wire)
        × (option_map (λ cell. record { cell = cell; track = e.number }) (channel_at k e.x e.y)
        ≡ Some w)
    go ChanX c = (record { cell = record { axis = X; x = e.x; y = e.y }; track = e.number }, refl)
    go ChanY c = (record { cell = record { axis = Y; x = e.x; y = e.y }; track = e.number }, refl)
    go k c = absurd (false≢true c)

pub wire-channel : (e : Elem) (w : Wire) → elem_wire e ≡ Some w → is_channel e.kind ≡ true
wire-channel e w is = go e.kind is
  where
    go : (k : ElemKind)
        → option_map {T = Cell} {U = Wire} (λ cell. record { cell = cell; track = e.number })
        (channel_at k e.x e.y) ≡ Some w → is_channel k ≡ true
    go ChanX h = refl
    go ChanY h = refl
    go Source h = cc
    go Opin h = cc
    go Ipin h = cc
    go Sink h = cc

-- wires that pass as one are one
pub same_wire-is : (u v : Wire) → same_wire u v ≡ true → u ≡ v
same_wire-is u v same =
    let parts = both_true _ (u.track == v.track) same in
    let cell = same_cell-is u.cell v.cell parts.0 in
    let track = eqb-true u.track v.track parts.1 in
    λ i. record { cell = cell i; track = track i }

-- a line on a wire is of the wire
pub on-wire : (w : Wire) (e : Elem) → is_on_wire w e ≡ true → elem_wire e ≡ Some w
on-wire w e on = go (elem_wire e) on
  where
    go : (o : Option Wire) → option_map_or (same_wire w) o false ≡ true → o ≡ Some w
    go None h = absurd (false≢true h)
    go (Some v) h = ap (λ (u : Wire). Some u) (sym (same_wire-is w v h))

-- a line that names a terminal
pub terminal-is : (e : Elem) (at : Terminal) → is_terminal e at ≡ true → named_terminal e ≡ at
terminal-is e at is =
    let last = both_true _ (e.number == at.number) is in
    let label = both_true (e.x == at.x && e.y == at.y) _ last.0 in
    let place = both_true (e.x == at.x) (e.y == at.y) label.0 in
    let x = eqb-true e.x at.x place.0 in
    let y = eqb-true e.y at.y place.1 in
    let kind = same_label-is e.label at.label label.1 in
    let number = eqb-true e.number at.number last.1 in
    λ i. record { x = x i; y = y i; label = kind i; number = number i }

module _ (arch : Arch) where
  no-class : (label : Label) (class n : ℕ) → is_number_of arch label class Class n ≡ true → ⊥
  no-class Class class n h = false≢true h
  no-class Pin class n h = false≢true h
  no-class Pad class n h = false≢true h
  no-class Track class n h = false≢true h

  no-track : (label : Label) (class n : ℕ) → is_number_of arch label class Track n ≡ true → ⊥
  no-track Class class n h = false≢true h
  no-track Pin class n h = false≢true h
  no-track Pad class n h = false≢true h
  no-track Track class n h = false≢true h

  -- what a pin line is of that is at a terminal and takes ordinary nets
  labelled : (at : Terminal) (label : Label) (x y n : ℕ)
      → (x == at.x && y == at.y && is_number_of arch at.label at.number label n) ≡ true
      → is_ordinary arch label n ≡ true
      → (pin : PinAt) × (labelled_pin label x y n ≡ Some pin) × (is_terminal_pin arch at pin ≡ true)
  labelled at Pin x y n here ordinary = (PinOf x y n, refl, and_from _ _ here ordinary)
  labelled at Pad x y n here ordinary = (PadAt x y n, refl, and_from _ _ here ordinary)
  labelled at Class x y n here ordinary =
      absurd (no-class at.label at.number n (both_true (x == at.x && y == at.y) _ here).1)
  labelled at Track x y n here ordinary =
      absurd (no-track at.label at.number n (both_true (x == at.x && y == at.y) _ here).1)

  pub opin-pin : (e : Elem) (at : Terminal) → is_opin e.kind ≡ true → is_pin_at arch at e ≡ true
      → is_ordinary arch e.label e.number ≡ true
      → (pin : PinAt) × (elem_pin e ≡ Some pin) × (is_terminal_pin arch at pin ≡ true)
  opin-pin e at is here ordinary =
      let pin = labelled at e.label e.x e.y e.number here ordinary in
      (pin.0, go e.kind is ∙ pin.1, pin.2)
    where
      go : (k : ElemKind) → is_opin k ≡ true → pin_at k e ≡ labelled_pin e.label e.x e.y e.number
      go Opin h = refl
      go k h = absurd (false≢true h)

  pub ipin-pin : (e : Elem) (at : Terminal) → is_ipin e.kind ≡ true → is_pin_at arch at e ≡ true
      → is_ordinary arch e.label e.number ≡ true
      → (pin : PinAt) × (elem_pin e ≡ Some pin) × (is_terminal_pin arch at pin ≡ true)
  ipin-pin e at is here ordinary =
      let pin = labelled at e.label e.x e.y e.number here ordinary in
      (pin.0, go e.kind is ∙ pin.1, pin.2)
    where
      go : (k : ElemKind) → is_ipin k ≡ true → pin_at k e ≡ labelled_pin e.label e.x e.y e.number
      go Ipin h = refl
      go k h = absurd (false≢true h)

  pad-number : (label : Label) (sub n : ℕ) → is_number_of arch label sub Pad n ≡ true
      → (label ≡ Pad) × (sub ≡ n)
  pad-number Pad sub n h = (refl, eqb-true sub n h)
  pad-number Class sub n h = absurd (false≢true h)
  pad-number Pin sub n h = absurd (false≢true h)
  pad-number Track sub n h = absurd (false≢true h)

  pin-number : (label : Label) (class n : ℕ) → is_number_of arch label class Pin n ≡ true
      → (label ≡ Class) × (is_of_class arch class n ≡ true)
  pin-number Class class n h = (refl, h)
  pin-number Pad class n h = absurd (false≢true h)
  pin-number Pin class n h = absurd (false≢true h)
  pin-number Track class n h = absurd (false≢true h)

  one-class : (c d n : ℕ) → is_of_class arch c n ≡ true → is_of_class arch d n ≡ true → c ≡ d
  one-class c d n first second = go (slice_get arch.pins n) first second
    where
      go : (o : Option PinSpec) → option_map_or (λ (spec : PinSpec). spec.class == c) o false ≡ true
          → option_map_or (λ (spec : PinSpec). spec.class == d) o false ≡ true → c ≡ d
      go None h g = absurd (false≢true h)
      go (Some spec) h g = sym (eqb-true spec.class c h) ∙ eqb-true spec.class d g

  -- where a pin of a terminal is
  place-of : (at : Terminal) (x y : ℕ) (numbered ordinary : Bool)
      → (x == at.x && y == at.y && numbered && ordinary) ≡ true
      → (x ≡ at.x) × (y ≡ at.y) × (numbered ≡ true)
  place-of at x y numbered ordinary is =
      let all = both_true (x == at.x && y == at.y && numbered) ordinary is in
      let number = both_true (x == at.x && y == at.y) numbered all.0 in
      let place = both_true (x == at.x) (y == at.y) number.0 in
      (eqb-true x at.x place.0, eqb-true y at.y place.1, number.1)

  -- a pin is one of one terminal alone
  pub one-terminal : (a b : Terminal) (pin : PinAt) → is_terminal_pin arch a pin ≡ true
      → is_terminal_pin arch b pin ≡ true → a ≡ b
  one-terminal a b (PadAt x y n) first second =
      let p = place-of a x y (is_number_of arch a.label a.number Pad n) true first in
      let q = place-of b x y (is_number_of arch b.label b.number Pad n) true second in
      let u = pad-number a.label a.number n p.2 in
      let v = pad-number b.label b.number n q.2 in
      λ i. record {
        x = (sym p.0 ∙ q.0) i;
        y = (sym p.1 ∙ q.1) i;
        label = (u.0 ∙ sym v.0) i;
        number = (u.1 ∙ sym v.1) i;
      }
  one-terminal a b (PinOf x y n) first second =
      let ordinary = is_ordinary arch Pin n in
      let p = place-of a x y (is_number_of arch a.label a.number Pin n) ordinary first in
      let q = place-of b x y (is_number_of arch b.label b.number Pin n) ordinary second in
      let u = pin-number a.label a.number n p.2 in
      let v = pin-number b.label b.number n q.2 in
      λ i. record {
        x = (sym p.0 ∙ q.0) i;
        y = (sym p.1 ∙ q.1) i;
        label = (u.0 ∙ sym v.0) i;
        number = one-class a.number b.number n u.1 v.1 i;
      }

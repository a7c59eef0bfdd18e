-- The wires of channel lines, and what is equal on one.
use Rattle.std.proofs.Common.{◌≡◌, ℕ, Bool, true, false, Some, List, [], ◌∷◌, refl, sym, ap, ◌∙◌, inl, inr}
use Rattle.std.specs.Prelude.{◌&&◌, ◌||◌, ◌==◌, not, filter, option_map}
use Rattle.std.proofs.lemmas.Bool.{eq-eqb, eqb-true, false≢true}
use Rattle.list_laws.proofs.Members.{In, In-filter, from_In-filter}
use Rattle.list_laws.proofs.Places.{some_is}
use Rattle.fpga_types.specs.Fit.{same_elem, same_place}
use Rattle.fpga_types.specs.Kinds.{is_channel, is_pin, same_kind, takes}
use Rattle.fpga_types.specs.Slots.{channel_at, elem_cell, elem_pin, first_seen, pin_at}
use Rattle.fpga_types.specs.declared.grid.Axis.TheVariants.{X, Y}
use Rattle.fpga_types.specs.declared.grid.Cell.{Cell}
use Rattle.fpga_types.specs.declared.grid.PinAt.{PinAt}
use Rattle.fpga_types.specs.declared.grid.PinAt.TheVariants.{Pad as PadAt, Pin as PinOf}
use Rattle.fpga_types.specs.declared.grid.Wire.{Wire}
use Rattle.fpga_types.specs.declared.route.Elem.{Elem}
use Rattle.fpga_types.specs.declared.route.ElemKind.{ElemKind}
use Rattle.fpga_types.specs.declared.route.ElemKind.TheVariants.{Source, Opin, ChanX, ChanY, Ipin, Sink}
use Rattle.fpga_types.specs.declared.route.Label.{Label}
use Rattle.fpga_types.specs.declared.route.Label.TheVariants.{Pin, Pad, Track}
use Rattle.fpga_types.proofs.MeetingLemmas.{both_true}
use Rattle.route_verify.specs.Depths.{same_tracked}
use Rattle.route_verify.specs.Wiring.{elem_wire}
use Rattle.route_verify.proofs.EqualLines.{channel_number, same_elem-is}

-- equal channel lines are on one wire
pub tracked-equal : (e other : Elem) → same_tracked e other ≡ true → is_channel e.kind ≡ true
    → (is_channel other.kind ≡ true) × (elem_wire other ≡ elem_wire e)
tracked-equal e other h is =
    let both = both_true (same_elem e other) (not (is_channel e.kind) || e.number == other.number) h
    in
    let same = same_elem-is e other both.0 in
    let track : e.number ≡ other.number = eqb-true e.number other.number
    (channel_number (is_channel e.kind) (e.number == other.number) both.1 is) in (
      ap is_channel (sym same.kind) ∙ is,
      sym (λ i. option_map {T = Cell} {U = Wire} (λ cell. record { cell = cell; track = track i })
          (channel_at (same.kind i) (same.x i) (same.y i))),
    )

pub cell-equal : (e other : Elem) → same_elem e other ≡ true → elem_cell other ≡ elem_cell e
cell-equal e other h = let same = same_elem-is e other h in
    sym (λ i. channel_at (same.kind i) (same.x i) (same.y i))

pub pin-equal : (e other : Elem) → same_elem e other ≡ true → is_channel e.kind ≡ false
    → elem_pin other ≡ elem_pin e
pin-equal e other h is =
    let same = same_elem-is e other h in
    let number = same.number is in
    sym (on_line other.kind e.line)
    ∙ sym (λ i. pin_at (same.kind i) (record {
      kind = same.kind i;
      x = same.x i;
      y = same.y i;
      label = same.label i;
      number = number i;
      line = e.line;
    }))
  where
    on_line : (kind : ElemKind) (line : ℕ) → pin_at kind (record other { line = line })
        ≡ pin_at kind other
    on_line Opin line = refl
    on_line Ipin line = refl
    on_line Source line = refl
    on_line Sink line = refl
    on_line ChanX line = refl
    on_line ChanY line = refl

-- a channel line has a wire
pub channel-wire : (e : Elem) → is_channel e.kind ≡ true → (w : Wire) × (elem_wire e ≡ Some w)
channel-wire e is = go e.kind is
  where
    go : (kind : ElemKind) → is_channel kind ≡ true → (w : Wire)
        × (option_map (λ cell. record { cell = cell; track = e.number }) (channel_at kind e.x e.y)
        ≡ Some w)
    go ChanX c = (
      record { cell = record { axis = X; x = e.x; y = e.y }; track = e.number },
      refl,
    )
    go ChanY c = (
      record { cell = record { axis = Y; x = e.x; y = e.y }; track = e.number },
      refl,
    )
    go kind c = absurd (false≢true c)

-- what is on a wire is a channel line, with its track, in its cell
pub record IsOnWire (e : Elem) (w : Wire) : Type 0 where
  pub channel : is_channel e.kind ≡ true
  pub track : e.number ≡ w.track
  pub cell : elem_cell e ≡ Some w.cell

pub on-wire : (e : Elem) (w : Wire) → elem_wire e ≡ Some w → IsOnWire e w
on-wire e w h = go e.kind h
  where
    go : (kind : ElemKind)
        → option_map (λ cell. record { cell = cell; track = e.number }) (channel_at kind e.x e.y)
        ≡ Some w
        → IsOnWire (record e { kind = kind }) w
    go ChanX g = record {
      channel = refl;
      track = ap (λ (v : Wire). v.track) (some_is g);
      cell = ap (λ (v : Wire). Some v.cell) (some_is g);
    }
    go ChanY g = record {
      channel = refl;
      track = ap (λ (v : Wire). v.track) (some_is g);
      cell = ap (λ (v : Wire). Some v.cell) (some_is g);
    }
    go Source g = cc
    go Opin g = cc
    go Ipin g = cc
    go Sink g = cc

-- two channel lines on one wire, both labelled as such, are equal
pub wire-equal : (e other : Elem) (w : Wire) → elem_wire e ≡ Some w → elem_wire other ≡ Some w
    → e.label ≡ Track → other.label ≡ Track → same_tracked e other ≡ true
wire-equal e other w h g label labels =
    let a = on-wire e w h in
    let b = on-wire other w g in
    let number : e.number ≡ other.number = a.track ∙ sym b.track in
    let cells : elem_cell e ≡ elem_cell other = a.cell ∙ sym b.cell in
    go e.kind other.kind a.channel b.channel cells number
  where
    parts : (c d : Cell) → Some c ≡ Some d → (c.axis ≡ d.axis) × (c.x ≡ d.x) × (c.y ≡ d.y)
    parts c d f = let same : c ≡ d = some_is f in (
      ap (λ (b : Cell). b.axis) same,
      ap (λ (b : Cell). b.x) same,
      ap (λ (b : Cell). b.y) same,
    )

    row : ℕ → ℕ → Cell
    row x y = record { axis = X; x = x; y = y }

    column : ℕ → ℕ → Cell
    column x y = record { axis = Y; x = x; y = y }

    go : (k l : ElemKind) → is_channel k ≡ true → is_channel l ≡ true
        → channel_at k e.x e.y ≡ channel_at l other.x other.y → e.number ≡ other.number
        → (same_kind k l && same_place e other && (is_channel k || e.number == other.number)
        && (not (is_channel k) || e.number == other.number)) ≡ true
    go ChanX ChanX c d f n = let s = parts (row e.x e.y) (row other.x other.y) f in
        rw (
          eq-eqb e.x other.x s.1,
          eq-eqb e.y other.y s.2,
          eq-eqb e.number other.number n,
          label,
          labels,
        ) refl
    go ChanY ChanY c d f n = let s = parts (column e.x e.y) (column other.x other.y) f in
        rw (
          eq-eqb e.x other.x s.1,
          eq-eqb e.y other.y s.2,
          eq-eqb e.number other.number n,
          label,
          labels,
        ) refl
    go ChanX ChanY c d f n = let s = parts (row e.x e.y) (column other.x other.y) f in cc
    go ChanY ChanX c d f n = let s = parts (column e.x e.y) (row other.x other.y) f in cc
    go ChanX l c d f n = absurd (false≢true d)
    go ChanY l c d f n = absurd (false≢true d)
    go k l c d f n = absurd (false≢true c)

-- a pin line with a label of its kind has a pin
pub labelled-pin : (e : Elem) → is_pin e.kind ≡ true → takes e.kind e.label ≡ true
    → (pin : PinAt) × (elem_pin e ≡ Some pin)
labelled-pin e is takes_it = go e.kind e.label is takes_it
  where
    go : (kind : ElemKind) (label : Label) → is_pin kind ≡ true → takes kind label ≡ true
        → (pin : PinAt) × (pin_at kind (record e { label = label }) ≡ Some pin)
    go Opin Pin i t = (PinOf e.x e.y e.number, refl)
    go Opin Pad i t = (PadAt e.x e.y e.number, refl)
    go Ipin Pin i t = (PinOf e.x e.y e.number, refl)
    go Ipin Pad i t = (PadAt e.x e.y e.number, refl)
    go Opin label i t = absurd (false≢true t)
    go Ipin label i t = absurd (false≢true t)
    go kind label i t = absurd (false≢true i)

-- what stands in a list stands in that of its first appearances
pub In-first_seen : {T : Type 0} (same : T → T → Bool)
    → ((x y : T) → same x y ≡ true → x ≡ y) → (xs : List T) (x : T) → In xs x
    → In (first_seen same xs) x
In-first_seen same is [] x i = absurd i
In-first_seen {T} same is (y ∷ ys) x i = elim i [
  | inl e ↦ inl e
  | inr later ↦ go (same y x) refl (In-first_seen same is ys x later)
]
  where
    go : (b : Bool) → same y x ≡ b → In (first_seen same ys) x
        → In (y ∷ filter (λ z. not (same y z)) (first_seen same ys)) x
    go true e among = inl (is y x e)
    go false e among =
        inr (In-filter (λ z. not (same y z)) (first_seen same ys) x among (ap not e))

pub from-first_seen : {T : Type 0} (same : T → T → Bool) (xs : List T) (x : T)
    → In (first_seen same xs) x → In xs x
from-first_seen same [] x i = i
from-first_seen {T} same (y ∷ ys) x i = elim i [
  | inl e ↦ inl e
  | inr later ↦ inr (from-first_seen same ys x
      (from_In-filter (λ z. not (same y z)) (first_seen same ys) x later).0)
]

-- Lines that are equal, kinds of lines, and channel lines on wires.
use Rattle.std.proofs.Common.{◌≡◌, Bool, true, false, Some, None, List, [], ◌∷◌, ◌++◌, refl, sym, ap, ◌∙◌}
use Rattle.std.specs.Prelude.{◌&&◌, ◌||◌, ◌==◌, filter, option_map}
use Rattle.std.specs.List.{list_any}
use Rattle.std.proofs.lemmas.Bool.{eq-eqb, false≢true}
use Rattle.std.proofs.lemmas.List.Folds.{list_any-append}
use Rattle.list_laws.proofs.Places.{some_is}
use Rattle.fpga_types.specs.Fit.{same_elem}
use Rattle.fpga_types.specs.Kinds.{is_channel, is_ipin, is_opin, is_sink, is_source, may_follow, same_kind, same_label}
use Rattle.fpga_types.specs.Slots.{channel_at, elem_cell, elem_pin, pin_at}
use Rattle.fpga_types.specs.declared.grid.Axis.{Axis}
use Rattle.fpga_types.specs.declared.grid.Axis.TheVariants.{X, Y}
use Rattle.fpga_types.specs.declared.grid.Cell.{Cell}
use Rattle.fpga_types.specs.declared.grid.Wire.{Wire}
use Rattle.fpga_types.specs.declared.route.Elem.{Elem}
use Rattle.fpga_types.specs.declared.route.ElemKind.{ElemKind}
use Rattle.fpga_types.specs.declared.route.ElemKind.TheVariants.{Source, Opin, ChanX, ChanY, Ipin, Sink}
use Rattle.fpga_types.specs.declared.route.Label.{Label}
use Rattle.fpga_types.specs.declared.route.Label.TheVariants.{Class, Pin, Pad, Track}
use Rattle.route_reach.specs.Printing.{channel_kind, wire_line}
use Rattle.route_verify.specs.Wiring.{elem_wire}

-- ---- lists

pub or-false : (b : Bool) → (b || false) ≡ b
or-false true = refl
or-false false = refl

-- a search among one more
pub any-push : {T : Type 0} (q : T → Bool) (xs : List T) (x : T)
    → list_any q (xs ++ x ∷ []) ≡ (list_any q xs || q x)
any-push q xs x = list_any-append q xs (x ∷ []) ∙ (λ i. list_any q xs || or-false (q x) i)

-- a search among those that pass a test, where what is searched passes it
pub any-filter : {T : Type 0} (q t : T → Bool) (xs : List T)
    → ((x : T) → q x ≡ true → t x ≡ true) → list_any q (filter t xs) ≡ list_any q xs
any-filter q t [] passes = refl
any-filter {T} q t (x ∷ xs) passes = go (t x) refl (q x) refl (any-filter q t xs passes)
  where
    go : (b : Bool) → t x ≡ b → (c : Bool) → q x ≡ c
        → list_any q (filter t xs) ≡ list_any q xs
        → list_any q (filter t (x ∷ xs)) ≡ list_any q (x ∷ xs)
    go true is c h rest = rw is (ap (λ (d : Bool). q x || d) rest)
    go false is true h rest = absurd (false≢true (sym is ∙ passes x h))
    go false is false h rest = rw (is, h) rest

-- ---- equal lines

same_kind-itself : (kind : ElemKind) → same_kind kind kind ≡ true
same_kind-itself Source = refl
same_kind-itself Opin = refl
same_kind-itself ChanX = refl
same_kind-itself ChanY = refl
same_kind-itself Ipin = refl
same_kind-itself Sink = refl

pub same_label-itself : (label : Label) → same_label label label ≡ true
same_label-itself Class = refl
same_label-itself Pin = refl
same_label-itself Pad = refl
same_label-itself Track = refl

pub or-true : (b : Bool) → (b || true) ≡ true
or-true true = refl
or-true false = refl

pub same_elem-itself : (e : Elem) → same_elem e e ≡ true
same_elem-itself e = rw (
  same_kind-itself e.kind,
  eq-eqb e.x e.x refl,
  eq-eqb e.y e.y refl,
  same_label-itself e.label,
  eq-eqb e.number e.number refl,
) (or-true (is_channel e.kind))

-- ---- kinds

pub channel-kinds : (k : ElemKind) → is_channel k ≡ true
    → (is_source k ≡ false) × (is_opin k ≡ false) × (is_ipin k ≡ false) × (is_sink k ≡ false)
channel-kinds ChanX is = (refl, refl, refl, refl)
channel-kinds ChanY is = (refl, refl, refl, refl)
channel-kinds k is = absurd (false≢true is)

pub source-is : (k : ElemKind) → is_source k ≡ true → k ≡ Source
source-is Source is = refl
source-is k is = absurd (false≢true is)

pub ipin-is : (k : ElemKind) → is_ipin k ≡ true → k ≡ Ipin
ipin-is Ipin is = refl
ipin-is k is = absurd (false≢true is)

pub sink-is : (k : ElemKind) → is_sink k ≡ true → k ≡ Sink
sink-is Sink is = refl
sink-is k is = absurd (false≢true is)

-- a SINK is an end, and neither an IPIN nor a SOURCE
pub sink-kinds : (k : ElemKind) → is_sink k ≡ true
    → (is_ipin k ≡ false) × ((is_ipin k || is_sink k) ≡ true) × (is_source k ≡ false)
sink-kinds Sink h = (refl, refl, refl)
sink-kinds k h = absurd (false≢true h)

-- what may stand behind a SINK, an OPIN and a channel
pub sink-leads : (k m : ElemKind) → is_sink k ≡ true → is_channel m ≡ true → may_follow k m ≡ true
sink-leads Sink ChanX is c = refl
sink-leads Sink ChanY is c = refl
sink-leads Sink m is c = absurd (false≢true c)
sink-leads k m is c = absurd (false≢true is)

pub opin-leads : (k m : ElemKind) → is_opin k ≡ true → is_channel m ≡ true → may_follow k m ≡ true
opin-leads Opin m is c = c
opin-leads k m is c = absurd (false≢true is)

pub channel-leads : (k m : ElemKind) → is_channel k ≡ true → is_channel m ≡ true
    → may_follow k m ≡ true
channel-leads ChanX m is c = ap (λ (b : Bool). b || is_ipin m) c
channel-leads ChanY m is c = ap (λ (b : Bool). b || is_ipin m) c
channel-leads k m is c = absurd (false≢true is)

-- ---- wires and pins

pub no-pin : (e : Elem) → is_channel e.kind ≡ true → elem_pin e ≡ None
no-pin e is = go e.kind is
  where
    go : (k : ElemKind) → is_channel k ≡ true → pin_at k e ≡ None
    go ChanX c = refl
    go ChanY c = refl
    go k c = absurd (false≢true c)

pub no-wire : (e : Elem) → is_channel e.kind ≡ false → elem_wire e ≡ None
no-wire e is = go e.kind is
  where
    go : (k : ElemKind) → is_channel k ≡ false
        → option_map {U = Wire} (λ cell. record { cell = cell; track = e.number })
        (channel_at k e.x e.y) ≡ None
    go ChanX c = absurd (false≢true (sym c))
    go ChanY c = absurd (false≢true (sym c))
    go Source c = refl
    go Opin c = refl
    go Ipin c = refl
    go Sink c = refl

-- a SINK has neither a wire nor a pin, an OPIN no wire
pub sink-bare : (e : Elem) → is_sink e.kind ≡ true → (elem_wire e ≡ None) × (elem_pin e ≡ None)
sink-bare e is = go e.kind is
  where
    go : (k : ElemKind) → is_sink k ≡ true
        → (option_map {U = Wire} (λ cell. record { cell = cell; track = e.number })
        (channel_at k e.x e.y) ≡ None) × (pin_at k e ≡ None)
    go Sink c = (refl, refl)
    go k c = absurd (false≢true c)

pub opin-other : (k : ElemKind) → is_opin k ≡ true
    → (is_channel k ≡ false) × (is_sink k ≡ false) × (is_ipin k ≡ false)
opin-other Opin is = (refl, refl, refl)
opin-other k is = absurd (false≢true is)

-- the line on a wire
pub line-channel : (w : Wire) → is_channel (wire_line w).kind ≡ true
line-channel w = go w.cell.axis
  where
    go : (a : Axis) → is_channel (channel_kind a) ≡ true
    go X = refl
    go Y = refl

pub line-wire : (w : Wire) → elem_wire (wire_line w) ≡ Some w
line-wire w = go w.cell.axis
  where
    go : (a : Axis) → option_map {U = Wire} (λ cell. record { cell = cell; track = w.track })
        (channel_at (channel_kind a) w.cell.x w.cell.y)
        ≡ Some (record { cell = record { axis = a; x = w.cell.x; y = w.cell.y }; track = w.track })
    go X = refl
    go Y = refl

track-swap : (l : Label) → same_label l Track ≡ true → same_label Track l ≡ true
track-swap Track g = refl
track-swap l g = absurd (false≢true g)

-- a channel line of its cell equals it, if it is labelled as such
pub cell-same : (e : Elem) (w : Wire) → elem_cell e ≡ Some w.cell → same_label e.label Track ≡ true
    → same_elem (wire_line w) e ≡ true
cell-same e w is label = go e.kind w.cell.axis is
  where
    go : (k : ElemKind) (a : Axis)
        → channel_at k e.x e.y ≡ Some (record { axis = a; x = w.cell.x; y = w.cell.y })
        → (same_kind (channel_kind a) k && (w.cell.x == e.x && w.cell.y == e.y
        && same_label Track e.label) && (is_channel (channel_kind a) || w.track == e.number))
        ≡ true
    go ChanX X h = rw (
      eq-eqb w.cell.x e.x (ap (λ (c : Cell). c.x) (sym (some_is h))),
      eq-eqb w.cell.y e.y (ap (λ (c : Cell). c.y) (sym (some_is h))),
      track-swap e.label label,
    ) refl
    go ChanY Y h = rw (
      eq-eqb w.cell.x e.x (ap (λ (c : Cell). c.x) (sym (some_is h))),
      eq-eqb w.cell.y e.y (ap (λ (c : Cell). c.y) (sym (some_is h))),
      track-swap e.label label,
    ) refl
    go ChanX Y h = let axis : X ≡ Y = ap (λ (c : Cell). c.axis) (some_is h) in cc
    go ChanY X h = let axis : Y ≡ X = ap (λ (c : Cell). c.axis) (some_is h) in cc
    go Source a h = cc
    go Opin a h = cc
    go Ipin a h = cc
    go Sink a h = cc

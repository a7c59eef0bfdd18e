-- What equal lines have in common.
use Rattle.std.proofs.Common.{◌≡◌, Bool, true, false, refl, sym, ap, ◌∙◌}
use Rattle.std.specs.Prelude.{◌&&◌, ◌||◌, ◌==◌, not}
use Rattle.std.proofs.lemmas.Bool.{eqb-true, false≢true}
use Rattle.fpga_types.specs.Fit.{same_elem, same_place}
use Rattle.fpga_types.specs.Kinds.{is_channel, same_kind, same_label}
use Rattle.fpga_types.specs.declared.route.Elem.{Elem}
use Rattle.fpga_types.specs.declared.route.ElemKind.{ElemKind}
use Rattle.fpga_types.specs.declared.route.ElemKind.TheVariants.{Source, Opin, ChanX, ChanY, Ipin, Sink}
use Rattle.fpga_types.specs.declared.route.Label.{Label}
use Rattle.fpga_types.specs.declared.route.Label.TheVariants.{Class, Pin, Pad, Track}
use Rattle.fpga_types.proofs.MeetingLemmas.{both_true}

-- kinds and labels that are one
pub same_kind-is : (k m : ElemKind) → same_kind k m ≡ true → k ≡ m
same_kind-is Source Source h = refl
same_kind-is Opin Opin h = refl
same_kind-is ChanX ChanX h = refl
same_kind-is ChanY ChanY h = refl
same_kind-is Ipin Ipin h = refl
same_kind-is Sink Sink h = refl
same_kind-is k m h = absurd (false≢true h)

pub same_label-is : (a b : Label) → same_label a b ≡ true → a ≡ b
same_label-is Class Class h = refl
same_label-is Pin Pin h = refl
same_label-is Pad Pad h = refl
same_label-is Track Track h = refl
same_label-is a b h = absurd (false≢true h)

-- what equal elements have in common
pub record AreEqual (a b : Elem) : Type 0 where
  pub kind : a.kind ≡ b.kind
  pub x : a.x ≡ b.x
  pub y : a.y ≡ b.y
  pub label : a.label ≡ b.label
  pub number : is_channel a.kind ≡ false → a.number ≡ b.number

pub same_elem-is : (a b : Elem) → same_elem a b ≡ true → AreEqual a b
same_elem-is a b h =
    let two = both_true (same_kind a.kind b.kind && same_place a b)
    (is_channel a.kind || a.number == b.number) h in
    let first = both_true (same_kind a.kind b.kind) (same_place a b) two.0 in
    let place = both_true (a.x == b.x && a.y == b.y) (same_label a.label b.label) first.1 in
    let spot = both_true (a.x == b.x) (a.y == b.y) place.0 in
    record {
      kind = same_kind-is a.kind b.kind first.0;
      x = eqb-true a.x b.x spot.0;
      y = eqb-true a.y b.y spot.1;
      label = same_label-is a.label b.label place.1;
      number = λ other. eqb-true a.number b.number
          (sym (ap (λ (c : Bool). c || a.number == b.number) other) ∙ two.1);
    }

-- of a channel line the second part says the same
pub channel_number : (k l : Bool) → (not k || l) ≡ true → k ≡ true → l ≡ true
channel_number true l h is = h
channel_number false l h is = absurd (false≢true is)

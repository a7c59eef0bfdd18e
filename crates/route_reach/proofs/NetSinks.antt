-- The sinks of a net in the global route and in a route that counts within a reach.
use Rattle.std.proofs.Common.{◌≡◌, ◌⊎◌, ℕ, suc, Bool, true, false, Option, Some, None, List, [], ◌∷◌, ◌++◌, take, drop, refl, sym, ap, ◌∙◌, inl, inr}
use Rattle.std.specs.Prelude.{◌&&◌, ◌==◌, filter_map, slice_get, if◌then◌else◌}
use Rattle.std.specs.Option.{option_map_or}
use Rattle.std.proofs.lemmas.Bool.{eq-eqb, eqb-true, false≢true}
use Rattle.list_laws.proofs.Members.{In, from_In-filter_map}
use Rattle.list_laws.proofs.Places.{In-place}
use Rattle.fpga_types.specs.Fit.{same_elem}
use Rattle.fpga_types.specs.Kinds
use Rattle.fpga_types.specs.Kinds.{is_channel, is_ipin, is_pin, is_sink, is_source, may_follow, same_label}
use Rattle.fpga_types.specs.Slots.{adjacent, elem_pin}
use Rattle.fpga_types.specs.Terminals.{is_number_of, is_of_class, is_pin_at, is_terminal, named_terminal}
use Rattle.fpga_types.specs.declared.arch.Arch.{Arch}
use Rattle.fpga_types.specs.declared.arch.PinSpec.{PinSpec}
use Rattle.fpga_types.specs.declared.grid.PinAt.{PinAt}
use Rattle.fpga_types.specs.declared.problem.Terminal.{Terminal}
use Rattle.fpga_types.specs.declared.route.Elem.{Elem}
use Rattle.fpga_types.specs.declared.route.ElemKind.{ElemKind}
use Rattle.fpga_types.specs.declared.route.ElemKind.TheVariants.{Source, Opin, ChanX, ChanY, Ipin, Sink}
use Rattle.fpga_types.specs.declared.route.Label.{Label}
use Rattle.fpga_types.specs.declared.route.Label.TheVariants.{Class, Pin, Pad}
use Rattle.fpga_types.proofs.MeetingLemmas.{both_true}
use Rattle.fpga_bounds.proofs.StepFacts.{adjacent-there}
use Rattle.route_reach.specs.Ends.{ipin_of, sink_pin}
use Rattle.route_reach.proofs.LineFacts.{same_label-itself}
use Rattle.route_verify.proofs.EqualLines.{AreEqual, same_label-is}

-- ---- terminals

pub terminal-is : (e : Elem) (t : Terminal) → is_terminal e t ≡ true → named_terminal e ≡ t
terminal-is e t h =
    let all = both_true (e.x == t.x && e.y == t.y && same_label e.label t.label)
    (e.number == t.number) h in
    let front = both_true (e.x == t.x && e.y == t.y) (same_label e.label t.label) all.0 in
    let place = both_true (e.x == t.x) (e.y == t.y) front.0 in
    let x = eqb-true e.x t.x place.0 in
    let y = eqb-true e.y t.y place.1 in
    let label = same_label-is e.label t.label front.1 in
    let number = eqb-true e.number t.number all.1 in
    λ i. record { x = x i; y = y i; label = label i; number = number i }

class-is : (arch : Arch) (m n pin : ℕ) → is_of_class arch m pin ≡ true
    → is_of_class arch n pin ≡ true → m ≡ n
class-is arch m n pin h g = go (slice_get arch.pins pin) h g
  where
    go : (o : Option PinSpec) → option_map_or (λ (spec : PinSpec). spec.class == m) o false ≡ true
        → option_map_or (λ (spec : PinSpec). spec.class == n) o false ≡ true → m ≡ n
    go None a b = absurd (false≢true a)
    go (Some spec) a b = sym (eqb-true spec.class m a) ∙ eqb-true spec.class n b

-- what a pin line is at
number-kind : (arch : Arch) (la : Label) (m : ℕ) (label : Label) (pin : ℕ)
    → is_number_of arch la m label pin ≡ true
    → ((la ≡ Class) × (label ≡ Pin) × (is_of_class arch m pin ≡ true))
    ⊎ ((la ≡ Pad) × (label ≡ Pad) × (m ≡ pin))
number-kind arch Class m Pin pin h = inl (refl, refl, h)
number-kind arch Pad m Pad pin h = inr (refl, refl, eqb-true m pin h)
number-kind arch la m label pin h = absurd (false≢true h)

-- a pin line is at one terminal
pub one-terminal : (arch : Arch) (s t : Terminal) (e : Elem) → is_pin_at arch s e ≡ true
    → is_pin_at arch t e ≡ true → s ≡ t
one-terminal arch s t e h g =
    let a = both_true (e.x == s.x && e.y == s.y)
    (is_number_of arch s.label s.number e.label e.number) h in
    let b = both_true (e.x == t.x && e.y == t.y)
    (is_number_of arch t.label t.number e.label e.number) g in
    let pa = both_true (e.x == s.x) (e.y == s.y) a.0 in
    let pb = both_true (e.x == t.x) (e.y == t.y) b.0 in
    let x : s.x ≡ t.x = sym (eqb-true e.x s.x pa.0) ∙ eqb-true e.x t.x pb.0 in
    let y : s.y ≡ t.y = sym (eqb-true e.y s.y pa.1) ∙ eqb-true e.y t.y pb.1 in
    let n = number (number-kind arch s.label s.number e.label e.number a.1)
    (number-kind arch t.label t.number e.label e.number b.1) in
    λ i. record { x = x i; y = y i; label = n.0 i; number = n.1 i }
  where
    number : ((s.label ≡ Class) × (e.label ≡ Pin) × (is_of_class arch s.number e.number ≡ true))
        ⊎ ((s.label ≡ Pad) × (e.label ≡ Pad) × (s.number ≡ e.number))
        → ((t.label ≡ Class) × (e.label ≡ Pin) × (is_of_class arch t.number e.number ≡ true))
        ⊎ ((t.label ≡ Pad) × (e.label ≡ Pad) × (t.number ≡ e.number))
        → (s.label ≡ t.label) × (s.number ≡ t.number)
    number (inl u) (inl v) = (u.0 ∙ sym v.0, class-is arch s.number t.number e.number u.2 v.2)
    number (inr u) (inr v) = (u.0 ∙ sym v.0, u.2 ∙ sym v.2)
    number (inl u) (inr v) = let clash : Pin ≡ Pad = sym u.1 ∙ v.1 in cc
    number (inr u) (inl v) = let clash : Pad ≡ Pin = sym u.1 ∙ v.1 in cc

-- equal pin lines are at the same terminals
pub at-equal : (arch : Arch) (t : Terminal) (a b : Elem) → AreEqual a b
    → is_channel a.kind ≡ false → is_pin_at arch t a ≡ true → is_pin_at arch t b ≡ true
at-equal arch t a b same other h =
    let number = same.number other in
    sym (λ i. same.x i == t.x && same.y i == t.y
    && is_number_of arch t.label t.number (same.label i) (number i)) ∙ h

-- two SINK lines that name one terminal are equal
pub sinks-equal : (a b : Elem) → is_sink a.kind ≡ true → is_sink b.kind ≡ true
    → named_terminal a ≡ named_terminal b → same_elem a b ≡ true
sinks-equal a b h g same = go a.kind b.kind h g
  where
    place : (a.x == b.x && a.y == b.y && same_label a.label b.label) ≡ true
    place =
        let x : a.x ≡ b.x = ap (λ (t : Terminal). t.x) same in
        let y : a.y ≡ b.y = ap (λ (t : Terminal). t.y) same in
        let l : a.label ≡ b.label = ap (λ (t : Terminal). t.label) same in
        (λ i. eq-eqb a.x b.x x i && eq-eqb a.y b.y y i && same_label (l i) b.label)
        ∙ same_label-itself b.label

    number : (a.number == b.number) ≡ true
    number = eq-eqb a.number b.number (ap (λ (t : Terminal). t.number) same)

    go : (k m : ElemKind) → is_sink k ≡ true → is_sink m ≡ true
        → same_elem (record a { kind = k }) (record b { kind = m }) ≡ true
    go Sink Sink c d = (λ i. place i && number i)
    go Sink m c d = absurd (false≢true d)
    go k m c d = absurd (false≢true c)

-- what stands before a SINK and before an IPIN
pub before-sink : (k m : ElemKind) → may_follow k m ≡ true → is_sink m ≡ true → is_ipin k ≡ true
before-sink Ipin m h is = refl
before-sink Source Sink h is = absurd (false≢true h)
before-sink Opin Sink h is = absurd (false≢true h)
before-sink ChanX Sink h is = absurd (false≢true h)
before-sink ChanY Sink h is = absurd (false≢true h)
before-sink Sink Sink h is = absurd (false≢true h)
before-sink k m h is = absurd (false≢true is)

pub before-ipin : (k m : ElemKind) → may_follow k m ≡ true → is_ipin m ≡ true
    → is_channel k ≡ true
before-ipin ChanX m h is = refl
before-ipin ChanY m h is = refl
before-ipin Source Ipin h is = absurd (false≢true h)
before-ipin Opin Ipin h is = absurd (false≢true h)
before-ipin Ipin Ipin h is = absurd (false≢true h)
before-ipin Sink Ipin h is = absurd (false≢true h)
before-ipin k m h is = absurd (false≢true is)

pub behind-ipin : (k m : ElemKind) → may_follow k m ≡ true → is_ipin k ≡ true → is_sink m ≡ true
behind-ipin Ipin Sink h is = refl
behind-ipin Ipin m h is = absurd (false≢true h)
behind-ipin k m h is = absurd (false≢true is)

pub no-source : (k : ElemKind) → is_source k ≡ true → (is_ipin k ≡ false) × (is_sink k ≡ false)
no-source Source h = (refl, refl)
no-source k h = absurd (false≢true h)

pub ipin-pin : (k : ElemKind) → is_ipin k ≡ true → (is_pin k ≡ true) × (is_channel k ≡ false)
    × (is_sink k ≡ false)
ipin-pin Ipin h = (refl, refl, refl)
ipin-pin k h = absurd (false≢true h)

-- ---- places

-- the last element of a list
pub last-place : {A : Type 0} (xs : List A) → (xs ≡ []) ⊎ ((i : ℕ) × (x : A)
    × (slice_get xs i ≡ Some x) × (drop (suc i) xs ≡ []) × (take i xs ++ x ∷ [] ≡ xs))
last-place [] = inl refl
last-place {A} (x ∷ xs) = elim (last-place xs) [
  | inl e ↦ inr (0, x, refl, first e, ap (λ (ys : List A). x ∷ ys) (sym e))
  | inr r ↦ inr (suc r.0, r.1, r.2, r.3, ap (λ (ys : List A). x ∷ ys) r.4)
]
  where
    first : xs ≡ [] → drop 1 (x ∷ xs) ≡ []
    first e = e

-- a SINK line of a net with the IPIN line before it
pub record IsEnding (elems : List Elem) (pin : PinAt) : Type 0 where
  pub place : ℕ
  pub ipin : Elem
  pub sink : Elem
  pub at : slice_get elems place ≡ Some ipin
  pub next : slice_get elems (suc place) ≡ Some sink
  pub is_ipin : is_ipin ipin.kind ≡ true
  pub is_sink : is_sink sink.kind ≡ true
  pub has : elem_pin ipin ≡ Some pin

pub ending : (elems : List Elem) (pin : PinAt) → In (filter_map sink_pin (adjacent elems)) pin
    → IsEnding elems pin
ending elems pin i =
    let pair = from_In-filter_map sink_pin (adjacent elems) pin i in
    let spot = In-place (adjacent elems) pair.0 pair.1 in
    let ends = adjacent-there elems spot.0 pair.0 spot.1 in
    let kinds = go pair.0.0 (is_sink pair.0.1.kind) refl pair.2 in
    record {
      place = spot.0;
      ipin = pair.0.0;
      sink = pair.0.1;
      at = ends.0;
      next = ends.1;
      is_ipin = kinds.1;
      is_sink = kinds.0;
      has = kinds.2;
    }
  where
    pin-line : (e : Elem) (b : Bool) → Kinds.is_ipin e.kind ≡ b
        → (if b then elem_pin e else None) ≡ Some pin
        → (Kinds.is_ipin e.kind ≡ true) × (elem_pin e ≡ Some pin)
    pin-line e true is h = (is, h)
    pin-line e false is h = cc

    go : (a : Elem) (s : Bool) {c : Bool} → c ≡ s
        → (if s then ipin_of a else None) ≡ Some pin
        → (c ≡ true) × (Kinds.is_ipin a.kind ≡ true) × (elem_pin a ≡ Some pin)
    go a true is h = let r = pin-line a (Kinds.is_ipin a.kind) refl h in (is, r.0, r.1)
    go a false is h = cc
